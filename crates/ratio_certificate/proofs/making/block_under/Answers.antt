use Rattle.ratio_certificate.proofs.Weighed.{has_scale}
use Rattle.ratio_certificate.proofs.making.block_under.Goals as goal

pub returns-in-None : goal.returns-in-None
returns-in-None c =
    let none = rw c.in-None.is at c.in_ok-block.ensures.none in
    absurd (has_scale c.args.problem.now.net.now c.args.problem.now.routing.now.routes c.args.problem.now.set.now c.args.shared.now c.args.metric.now c.requires.problem.routing c.requires.shared
    c.requires.metric c.requires.weights none)
