use Rattle.std.proofs.Common.{◌≡◌, ◌^◌, ◌<◌, ℕ, List, arith, sym, subst, ◌∙◌}
use Rattle.te_model.specs.Network.{link_count}
use Rattle.ratio_certificate.specs.declared.weighting.Weighting.{Weighting}
use Rattle.ratio_certificate.specs.Steps.{IsProgress}
use Rattle.ratio_certificate.specs.Weighting.{AreDoubled, AreWeights, IsWeighting}
use Rattle.ratio_certificate.proofs.Stepping.{doubled_progress, doubled_weights}
use Rattle.ratio_certificate.proofs.Trying.{value_gives}
use Rattle.ratio_certificate.proofs.Weighed.{all_small}
use Rattle.ratio_certificate.proofs.polish.double.Goals as goal

pub returns : goal.returns
returns c =
    let net = c.args.problem.now.net.now in
    let routes = c.args.problem.now.routing.now.routes in
    let wanted = c.args.problem.now.set.now in
    let old = c.args.weighting.now in
    let twice = subst (λ (ws : List ℕ). AreDoubled ws c.in_ok-weights.weights.items) c.as_slice.ensures c.in_ok-weights.ensures in
    let inside : old.link < link_count net = omega (arith, c.requires.link, c.requires.shared.within) in
    value_gives c.weighting_of.result (λ (w : Weighting). w.link ≡ c.args.shared.now.link) (λ (w : Weighting). w.weights ≡ c.in_ok-metric.metric.weights)
    (IsWeighting net routes wanted) (IsProgress net routes wanted old)
    (λ w link_is weights_are is.
    doubled_progress net routes wanted old w c.in_ok-weights.weights.items c.requires.problem.network inside c.requires.weighting twice c.requires.coarse
    (link_is ∙ sym c.requires.link) (weights_are ∙ c.in_ok-metric.ensures.weights) is)
    c.weighting_of.ensures.link c.weighting_of.ensures.weights c.weighting_of.ensures.weighting

pub metric_of-requires-clause-small : goal.metric_of-requires-clause-small
metric_of-requires-clause-small c =
    let net = c.args.problem.now.net.now in
    let new = c.in_ok-weights.weights.items in
    let twice = subst (λ (ws : List ℕ). AreDoubled ws new) c.as_slice.ensures c.in_ok-weights.ensures in
    let are = doubled_weights net c.args.weighting.now.weights new c.requires.weighting.weights_are twice c.requires.coarse.0 in
    all_small new (link_count net) (2 ^ 28) are.count are.small

pub weighting_of-requires-clause-weights : goal.weighting_of-requires-clause-weights
weighting_of-requires-clause-weights c =
    let net = c.args.problem.now.net.now in
    let new = c.in_ok-weights.weights.items in
    let twice = subst (λ (ws : List ℕ). AreDoubled ws new) c.as_slice.ensures c.in_ok-weights.ensures in
    subst (AreWeights net) (sym c.in_ok-metric.ensures.weights) (doubled_weights net c.args.weighting.now.weights new c.requires.weighting.weights_are twice c.requires.coarse.0)
