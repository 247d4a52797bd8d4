use Rattle.std.proofs.Common.{arith}
use Rattle.cover_search.proofs.reach.reach.Goals as goal

pub loop-init : goal.loop-init
loop-init c =
    let is = c.in_ok-reached.ensures c.args.shares.now in
    let few = is.few in
    record { reaching = is; rest = omega (arith, few) }
