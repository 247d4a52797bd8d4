use Rattle.best_blocks.proofs.ListedQuotients.{IsBestListed}
use Rattle.best_blocks.proofs.quotient.greatest_quotient.Given as goal

abbrev pub invariant-loop-entry : goal.invariant-loop-entry
invariant-loop-entry l = IsBestListed l.entry-index l.shared.list l.distances l.best.pair l.best.share l.best.distance
