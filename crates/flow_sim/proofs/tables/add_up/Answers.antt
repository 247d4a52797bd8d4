use Rattle.std.proofs.Common.{◌<◌, slice_index, length, arith}
use Rattle.flow_sim.specs.Tables.{amount_of_key}
use Rattle.flow_sim.proofs.TableLaws.{next_fits, amount_at-own}
use Rattle.te_model.proofs.Sums.{sum_below-next}
use Rattle.flow_sim.proofs.tables.add_up.Goals as goal

pub add_at-requires : goal.add_at-requires
add_at-requires c = λ inside.
    let keys = c.args.keys.now in
    let amounts = c.args.amounts.now in
    let key = slice_index keys c.loop-f.f in
    omega (
      arith,
      c.loop-f.invariant key inside,
      c.requires.fits key,
      next_fits (length keys) c.loop-f.f (amount_of_key keys amounts key) (omega arith),
      amount_at-own keys amounts c.loop-f.f,
    )

pub loop-f-preserved : goal.loop-f-preserved
loop-f-preserved c = λ e inside.
    let keys = c.args.keys.now in
    let amounts = c.args.amounts.now in
    let within : e < length c.loop-f.totals = omega (arith, c.add_at.auto.totals) in
    omega (
      arith,
      c.add_at.ensures e within,
      c.loop-f.invariant e within,
      sum_below-next c.loop-f.f (amount_of_key keys amounts e),
    )
