use Rattle.std.proofs.Common.{◌<◌, arith}
use Rattle.routing.proofs.Capacities.{capacity_some}
use Rattle.routing.proofs.loads.greatest_under.Goals as goal

pub utilisation-requires-clause-capacity : goal.utilisation-requires-clause-capacity
utilisation-requires-clause-capacity c =
    capacity_some c.args.net.now c.as_slice-links.result.now c.loop-h.h c.as_slice-links.ensures c.requires.network (omega (arith, c.loop-h-test.true))
