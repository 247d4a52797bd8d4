use Rattle.std.proofs.Common.{sym}
use Rattle.link_bounds.proofs.FirstThree.{fourth_first}
use Rattle.link_bounds.proofs.feasibility.infeasibility.Goals as goal

pub returns-in-Some : goal.returns-in-Some
returns-in-Some c = fourth_first c.args.head.now c.args.block.now c.in-Some.failure (sym c.in-Some.ensures) c.if-failure-eq4.true
