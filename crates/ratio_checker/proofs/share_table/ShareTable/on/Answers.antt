use Rattle.std.proofs.Common.{sym, subst}
use Rattle.ratio_checker.specs.Shares.{AreSharesOn}
use Rattle.ratio_checker.proofs.share_table.ShareTable.on.Goals as goal

pub returns : goal.returns
returns c = λ routes links has inside. subst (AreSharesOn routes c.args.link) (sym c.index.ensures) (has.each c.args.link c.index.result.now inside)
