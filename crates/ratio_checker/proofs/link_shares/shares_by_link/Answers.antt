use Rattle.std.proofs.Common.{arith, refl}
use Rattle.te_model.specs.declared.limits.TheConstants.{FORMAT_2}
use Rattle.te_model.proofs.Lists.{zeros}
use Rattle.ratio_checker.proofs.WeightOn.{weight_on_more_le}
use Rattle.ratio_checker.proofs.link_shares.shares_by_link.Goals as goal

pub loop-path-init : goal.loop-path-init
loop-path-init c = record { count = refl; sums = λ e. zeros FORMAT_2.links e }

pub add_weight-requires-clause-room : goal.add_weight-requires-clause-room
add_weight-requires-clause-room c = λ h.
    omega (
      arith,
      c.requires.weights,
      c.loop-path.invariant.sums h,
      weight_on_more_le c.args.paths.now h c.loop-path.path-index c.path-item.result c.loop-path-test.true c.path-item.is,
    )
