use Rattle.std.proofs.Common.{arith}
use Rattle.ratio_certificate.proofs.Weighed.{has_scale, scale_within}
use Rattle.ratio_certificate.proofs.weighting.scale_of.Goals as goal

pub returns-in-Some : goal.returns-in-Some
returns-in-Some c =
    let under = rw c.in-Some.is at c.scale_under.ensures.some in
    let bounds = scale_within c.args.problem.now.net.now c.args.problem.now.routing.now.routes c.args.problem.now.set.now c.args.shared.now.link 1 c.in-Some.scale.a c.in-Some.scale.b
    c.args.metric.now.weights c.requires.problem.network c.requires.problem.routing (omega arith) c.requires.weights c.requires.weights.some under
    in
    record { scale = under; a = omega (arith, bounds.a_small); b = (bounds.b_large, bounds.b_small) }

pub returns-in-None : goal.returns-in-None
returns-in-None c =
    absurd (has_scale c.args.problem.now.net.now c.args.problem.now.routing.now.routes c.args.problem.now.set.now c.args.shared.now c.args.metric.now c.requires.problem.routing c.requires.shared c.requires.metric
    c.requires.weights (rw c.in-None.is at c.scale_under.ensures.none))
