use Rattle.std.proofs.Common.{◌+◌, sym, subst}
use Rattle.robust_routing.specs.Split.{AreSomeRates}
use Rattle.robust_routing.proofs.Splitting.{rates_more, rates_none}
use Rattle.robust_routing.proofs.split.some_rates.Goals as goal

pub loop-i-init : goal.loop-i-init
loop-i-init c = subst (AreSomeRates 0) (sym c.in_ok-list.ensures.items) rates_none

pub loop-i-preserved : goal.loop-i-preserved
loop-i-preserved c =
    subst (AreSomeRates (c.loop-i.i + 1)) (sym c.in_ok-push.ensures.items)
    (rates_more c.loop-i.i c.loop-i.list.items c.some_rate.result c.loop-i.invariant c.some_rate.ensures.some c.some_rate.ensures.small)
