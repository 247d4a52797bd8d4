use Rattle.std.proofs.Common.{slice_index}
use Rattle.best_blocks.specs.Marks.{AreSourceMarks}
use Rattle.best_blocks.proofs.sharing.sources_of.Given as goal

abbrev pub invariant-loop-p : goal.invariant-loop-p
invariant-loop-p l = AreSourceMarks l.nodes l.p l.routing.routes l.set (slice_index l.shares) l.marks.items
