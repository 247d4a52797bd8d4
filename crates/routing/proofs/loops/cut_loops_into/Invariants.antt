use Rattle.std.proofs.Common.{length}
use Rattle.routing.proofs.Cutting.{CutSoFar}
use Rattle.routing.proofs.loops.cut_loops_into.Given as goal

abbrev pub invariant-loop-h : goal.invariant-loop-h
invariant-loop-h l = CutSoFar l.net l.src l.walk l.cut.items l.rest

abbrev pub decreases-loop-h : goal.decreases-loop-h
decreases-loop-h l = length l.rest
