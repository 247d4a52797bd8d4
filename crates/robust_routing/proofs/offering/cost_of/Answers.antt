use Rattle.std.proofs.Common.{◌≡◌, ◌+◌, ◌-◌, ◌^◌, min, arith}
use Rattle.robust_routing.proofs.Cheaper.{sum_along_more}
use Rattle.robust_routing.proofs.offering.cost_of.Goals as goal

pub loop-link-preserved : goal.loop-link-preserved
loop-link-preserved c =
    let is : c.saturating_add-total.result ≡ min (c.loop-link.total + c.number_at.result) (2 ^ 64 - 1) = grind (arith, c.saturating_add-total.ensures) in
    omega (
      arith,
      is,
      c.number_at.ensures,
      c.loop-link.invariant,
      sum_along_more c.args.lengths.now c.args.links.now c.loop-link.link-index 0 (omega (arith, c.loop-link-test.true, c.loop-link.auto.link-index-end)),
    )
