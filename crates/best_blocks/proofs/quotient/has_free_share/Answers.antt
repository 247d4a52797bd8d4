use Rattle.std.proofs.Common.{◌≤◌, List, length, arith, ap}
use Rattle.routing.specs.declared.shares.PairShare.{PairShare}
use Rattle.best_blocks.proofs.ListedQuotients.{apart_all, apart_more, apart_none, free_pair}
use Rattle.best_blocks.proofs.quotient.has_free_share.Goals as goal

pub loop-entry-init : goal.loop-entry-init
loop-entry-init c = apart_none c.args.shared.now.list c.args.distances.now
