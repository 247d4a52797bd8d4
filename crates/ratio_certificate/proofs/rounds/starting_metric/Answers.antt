use Rattle.std.proofs.Common.{◌≡◌, ◌^◌, ◌≤◌, Bool, true, ℕ, List, length, replicate, arith, ap, sym, subst, ◌∙◌}
use Rattle.std.specs.Prelude.{All}
use Rattle.std.proofs.lemmas.List.{length-replicate}
use Rattle.std.proofs.lemmas.List.Elements.{All-replicate}
use Rattle.te_model.specs.declared.network.Link.{Link}
use Rattle.te_model.specs.Network.{link_count, node_count}
use Rattle.ratio_certificate.proofs.RoundMetrics.{starting_made}
use Rattle.ratio_certificate.proofs.rounds.starting_metric.Goals as goal

pub returns : goal.returns
returns c =
    let net = c.args.net.now in
    let are : c.in_ok-weights.weights.items ≡ replicate (link_count net) (2 ^ 20) =
    c.in_ok-weights.ensures.items_if_clones_equal (λ y same. same) ∙ ap (λ (ls : List Link). replicate (length ls) (2 ^ 20)) c.as_slice.ensures
    in
    let marks : c.deref.result.now ≡ replicate (node_count net) true =
    c.deref.ensures.value ∙ c.in_ok-marks.ensures.items_if_clones_equal (λ y same. same) ∙ ap (λ (n : ℕ). replicate n true) (ap length c.as_slice-2.ensures)
    in
    starting_made net c.args.routing.now.routes c.deref.result.now c.in_ok-weights.weights.items c.metric_of.result marks are c.metric_of.ensures.metric c.metric_of.ensures.weights

pub metric_of-requires-clause-small : goal.metric_of-requires-clause-small
metric_of-requires-clause-small c =
    let are = c.in_ok-weights.ensures.items_if_clones_equal (λ y same. same) in
    subst (λ (ws : List ℕ). All (λ w. w ≤ 2 ^ 28) ws) (sym are) (All-replicate (λ w. w ≤ 2 ^ 28) (length c.as_slice.result.now) (2 ^ 20) (omega arith))

pub metric_of-requires-clause-weights : goal.metric_of-requires-clause-weights
metric_of-requires-clause-weights c =
    let are = c.in_ok-weights.ensures.items_if_clones_equal (λ y same. same) in
    ap (λ (ws : List ℕ). length ws) are ∙ length-replicate (length c.as_slice.result.now) (2 ^ 20) ∙ ap (λ (ls : List Link). length ls) c.as_slice.ensures

pub metric_of-requires-clause-marks : goal.metric_of-requires-clause-marks
metric_of-requires-clause-marks c =
    let are = c.deref.ensures.value ∙ c.in_ok-marks.ensures.items_if_clones_equal (λ y same. same) in
    ap (λ (ms : List Bool). length ms) are ∙ length-replicate (length c.as_slice-2.result.now) true ∙ ap length c.as_slice-2.ensures
