use Rattle.local_recovery.proofs.Spreading.{SpreadSoFar}
use Rattle.local_recovery.proofs.rates.Recovered.spread.Given as goal

abbrev pub invariant-loop-pair : goal.invariant-loop-pair
invariant-loop-pair l = SpreadSoFar l.fn.self.routes l.pairs.list l.pair-index l.left.items l.list.items
