use Rattle.ratio_checker.proofs.LinkPairLists.{HasNoPairs}
use Rattle.ratio_checker.proofs.share_table.empty_table.Given as goal

abbrev pub invariant-loop-e : goal.invariant-loop-e
invariant-loop-e l = HasNoPairs l.e l.table.items
