use Rattle.std.proofs.Common.{take}
use Rattle.failure.specs.Series.{AreEndsByStep}
use Rattle.failure.proofs.series.enter.Given as goal

abbrev pub invariant-loop-outage : goal.invariant-loop-outage
invariant-loop-outage l = AreEndsByStep l.links (take l.outage-index l.outages) l.table
