use Rattle.best_blocks.proofs.ListedQuotients.{AreApart}
use Rattle.best_blocks.proofs.quotient.has_free_share.Given as goal

abbrev pub invariant-loop-entry : goal.invariant-loop-entry
invariant-loop-entry l = AreApart l.entry-index l.shared.list l.distances
