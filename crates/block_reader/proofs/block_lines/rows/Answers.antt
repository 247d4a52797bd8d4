use Rattle.std.proofs.Common.{◌∙◌, ◌<◌, ◌+◌, length, take, sym, ap, subst, arith}
use Rattle.std.specs.List.{All, AllByRecursion}
use Rattle.std.proofs.lemmas.List.{take_more_set, length-set}
use Rattle.std.proofs.lemmas.List.Elements.{All-set, All-get_or}
use Rattle.std.proofs.lemmas.Result.{err_from_is_err_and}
use Rattle.te_model.specs.declared.certificate.Row.{Row}
use Rattle.cert_text.specs.Fits.{FitsRow}
use Rattle.cert_text.specs.Place.{place, Stops}
use Rattle.cert_text.specs.Reading.{narrow_number}
use Rattle.cert_text.specs.Grammar.{read_row}
use Rattle.cert_text.proofs.Loop.{ends, all_more}
use Rattle.block_reader.specs.Room.{HasWidth}
use Rattle.block_reader.proofs.Placing.{goes_on_in, is_done_in}
use Rattle.block_reader.proofs.block_lines.rows.Goals as goal

pub returns-in_err-row-clause-takes : goal.returns-in_err-row-clause-takes
returns-in_err-row-clause-takes g c =
    let nodes = length c.args.spare.now.potential in
    let at = place c.loop-k.r.line (g.C.Cursor.rest c.loop-k.r.source) in
    let p = err_from_is_err_and c.from_residual.result c.from_residual.ensures.1 in
    let so_far = c.loop-k.invariant.3 in
    let one = c.in_err-row.ensures.takes in
    let below : c.loop-k.k < length c.args.rows.now = omega (arith, c.loop-k-test.true, ap length c.as_slice-count.ensures) in
    rw (p.1, p.2) (record {
      told = λ t. so_far.told (one.told t);
      reads = λ t.
          let stops : Stops c.in_err-row.field-0.0 (read_row narrow_number nodes at) = subst (λ n. Stops c.in_err-row.field-0.0 (read_row narrow_number n at)) c.loop-k.invariant.1 (one.reads t) in
          ends (read_row narrow_number nodes) c.in_err-row.field-0.0 (take c.loop-k.k c.loop-k.rows) (length c.args.rows.now) c.loop-k.k _ _ below stops (so_far.reads (one.told t));
    })

pub loop-k-preserved : goal.loop-k-preserved
loop-k-preserved g c =
    let nodes = length c.args.spare.now.potential in
    let shelf = c.loop-k.invariant.0 in
    let so_far = c.loop-k.invariant.3 in
    let one = c.in_ok-row.ensures.takes in
    let at = place c.loop-k.r.line (g.C.Cursor.rest c.loop-k.r.source) in
    let row = c.row.new.row in
    let wide : HasWidth nodes row = c.in_ok-row.ensures.width ∙ c.loop-k.invariant.1 in
    let fits : FitsRow nodes row = subst (λ n. FitsRow n row) c.loop-k.invariant.1 c.in_ok-row.ensures.fits in
    let below : c.loop-k.k < length c.args.rows.now = omega (arith, c.loop-k-test.true, ap length c.as_slice-count.ensures) in
    let inside : c.loop-k.k < length c.loop-k.rows = omega (arith, below, shelf.count) in (
      record {
        count = ap length c.swap_item.ensures.put ∙ length-set c.loop-k.rows c.loop-k.k row ∙ shelf.count;
        widths = subst (All (HasWidth nodes)) (sym c.swap_item.ensures.put) (All-set (HasWidth nodes) c.loop-k.rows c.loop-k.k row wide shelf.widths);
      },
      ap (λ (r : Row). length r.potential) c.swap_item.ensures.taken ∙ All-get_or (HasWidth nodes) c.loop-k.rows c.loop-k.k row inside shelf.widths,
      subst (AllByRecursion (FitsRow nodes)) (sym (ap (take (c.loop-k.k + 1)) c.swap_item.ensures.put ∙ take_more_set c.loop-k.rows c.loop-k.k row inside))
          (all_more (FitsRow nodes) (take c.loop-k.k c.loop-k.rows) row c.loop-k.invariant.2 fits),
      record {
        told = λ t. so_far.told (one.told t);
        reads = λ t.
            goes_on_in (read_row narrow_number nodes) c.loop-k.rows c.swap_item.new.self (length c.args.rows.now) c.loop-k.k at row _ _ below inside c.swap_item.ensures.put
            (ap (λ n. read_row narrow_number n at) (sym c.loop-k.invariant.1) ∙ one.reads t) (so_far.reads (one.told t));
      },
    )

pub returns-clause-takes : goal.returns-clause-takes
returns-clause-takes g c = record {
  told = c.loop-k.invariant.3.told;
  reads = λ t.
      is_done_in (read_row narrow_number (length c.args.spare.now.potential)) c.loop-k.rows (length c.args.rows.now) c.loop-k.k _ _
      (omega (arith, c.loop-k-test.false, ap length c.as_slice-count.ensures)) c.loop-k.invariant.0.count (c.loop-k.invariant.3.reads t);
}
