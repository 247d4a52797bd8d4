use Rattle.best_blocks.proofs.SharesListed.{AreWritten}
use Rattle.best_blocks.proofs.sharing.shares_by.Given as goal

abbrev pub invariant-loop-entry : goal.invariant-loop-entry
invariant-loop-entry l = AreWritten l.entry-index l.routing.routes l.link l.list l.shares.items
