use Rattle.std.proofs.Common.{◌≡◌, length, arith, ap, ◌∙◌}
use Rattle.std.proofs.lemmas.List.FromFn.{length-map-range_with_len, fill_by_all}
use Rattle.flow_sim.specs.Tables.{total_at}
use Rattle.flow_sim.proofs.TableLaws.{zero_read, written, total_at-fits}
use Rattle.flow_sim.proofs.tables.totals_of.Goals as goal

pub add_up-requires-clause-fits : goal.add_up-requires-clause-fits
add_up-requires-clause-fits c = λ e.
    omega (
      arith,
      zero_read c.args.count e c.deref_mut.result.now (c.deref_mut.ensures.value ∙ c.in_ok-totals.ensures),
      total_at-fits c.args.keys.now c.args.amounts.now e c.requires.lengths,
      c.requires.fits,
    )

pub returns : goal.returns
returns c =
    let keys = c.args.keys.now in
    let amounts = c.args.amounts.now in
    let zeros = c.deref_mut.ensures.value ∙ c.in_ok-totals.ensures in
    let size : length c.deref_mut.result.now ≡ c.args.count =
    ap length zeros ∙ length-map-range_with_len (λ i. 0) 0 c.args.count in
    let new_size = c.add_up.auto.totals in
    written c.add_up.new.totals c.in_ok-totals.totals.items c.in_ok-totals.totals.len (omega (arith, new_size, c.deref_mut.ensures.len))
    ∙ fill_by_all (total_at keys amounts) c.add_up.new.totals c.args.count 0 (omega (arith, new_size, size))
    (λ k below. omega (arith, c.add_up.ensures k (omega (arith, size)), zero_read c.args.count k c.deref_mut.result.now zeros))
