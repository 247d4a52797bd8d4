use Rattle.std.proofs.Common.{All}
use Rattle.ratio_tightening.specs.Polishing.{AreReached, CanPolish}
use Rattle.ratio_tightening.proofs.PolishedBlocks.{gap_in}
use Rattle.ratio_tightening.proofs.polishing.polish_blocks.Given as goal

abbrev pub invariant-loop-step : goal.invariant-loop-step
invariant-loop-step l = AreReached l.net l.routing.routes l.set l.fn.blocks l.blocks × All (CanPolish l.net l.routing.routes) l.blocks

abbrev pub decreases-loop-step : goal.decreases-loop-step
decreases-loop-step l = gap_in l.net l.blocks
