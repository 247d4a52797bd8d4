use Rattle.ratio_checker.specs.Shares.{HasSharesBelow}
use Rattle.ratio_checker.proofs.share_table.ShareTable.new.Given as goal

abbrev pub invariant-loop-p : goal.invariant-loop-p
invariant-loop-p l = HasSharesBelow l.head.routes l.links l.p l.table.items
