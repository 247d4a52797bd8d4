use Rattle.std.proofs.Common.{◌≡◌, ◌^◌, ◌≤◌, List, ℕ, slice_index, sym, subst, ◌∙◌}
use Rattle.best_blocks.specs.Need.{need_by}
use Rattle.ratio_certificate.proofs.Weighed.{each_small, weighting_is}
use Rattle.ratio_certificate.proofs.weighting.weighting_of.Goals as goal

pub need_by-need-requires-clause-weights : goal.need_by-need-requires-clause-weights
need_by-need-requires-clause-weights c = λ h.
    subst (λ (ws : List ℕ). slice_index ws h ≤ 2 ^ 28) (sym c.as_slice.ensures) (each_small c.args.metric.now.weights c.requires.metric.small h)

pub returns-clause-weighting : goal.returns-clause-weighting
returns-clause-weighting c =
    let net = c.args.problem.now.net.now in
    let e = c.args.shared.now.link in
    let scale = c.scale_of-scale.result in
    let weights = c.args.metric.now.weights in
    let need : c.need_by-need.result ≡ need_by net e weights scale.a scale.b =
    subst (λ (ws : List ℕ). c.need_by-need.result ≡ need_by net e ws scale.a scale.b) c.as_slice.ensures c.need_by-need.ensures
    in
    weighting_is net c.args.problem.now.routing.now.routes c.args.problem.now.set.now e scale.a scale.b c.need_by-need.result weights c.new.result
    (c.new.ensures ∙ c.in_ok-weights.ensures.items ∙ c.as_slice-2.ensures) c.requires.weights c.scale_of-scale.ensures.scale need

pub returns-clause-weights : goal.returns-clause-weights
returns-clause-weights c = c.new.ensures ∙ c.in_ok-weights.ensures.items ∙ c.as_slice-2.ensures
