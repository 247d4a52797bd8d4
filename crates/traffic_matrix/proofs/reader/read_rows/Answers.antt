use Rattle.std.proofs.Common.{◌≡◌, ◌≢◌, ◌∙◌, refl, ap, arith, [], Err, length}
use Rattle.csv_records.proofs.RowFacts.{passed}
use Rattle.traffic_matrix.specs.declared.fault.MatrixFault.{MatrixFault}
use Rattle.traffic_matrix.specs.declared.fault.MatrixFault.TheVariants as fault
use Rattle.traffic_matrix.specs.Rows.{entries_below}
use Rattle.traffic_matrix.proofs.Reading.{row-refused, row-added, rows-done}
use Rattle.traffic_matrix.proofs.reader.read_rows.Goals as goal

pub loop-demands-init : goal.loop-demands-init
loop-demands-init c = record {
  table = c.in_ok-demands.ensures.nodes ∙ c.len.ensures;
  stands = record { entries = []; shows = c.in_ok-demands.ensures.shows; goes = refl };
  row = omega arith;
}

pub returns-in_err-read_row-clause-refused : goal.returns-in_err-read_row-clause-refused
returns-in_err-read_row-clause-refused c =
    let names = c.args.nodes.now in
    let all = entries_below names c.args.rows.now.rest in
    passed _ c.in_err-read_row.field-0.0 (λ (e : MatrixFault). e ≢ fault.Memory → all ≡ Err e) c.from_residual-in_err-read_row.ensures.1
    (λ other. row-refused names all _ _ _ c.loop-demands.invariant.stands _ _ _ (c.in_ok-advance.ensures.found c.if-branch.true) (c.in_err-read_row.ensures.refused other))

pub overflow_add-row : goal.overflow_add-row
overflow_add-row c =
    let i = c.loop-demands.invariant in
    let e = ap length (c.in_ok-advance.ensures.found c.if-branch.true) in
    omega (arith, i.row)

pub loop-demands-preserved : goal.loop-demands-preserved
loop-demands-preserved c =
    let names = c.args.nodes.now in
    let i = c.loop-demands.invariant in
    let found = c.in_ok-advance.ensures.found c.if-branch.true in
    record {
      table = c.in_ok-read_row.ensures.nodes;
      stands = row-added names (entries_below names c.args.rows.now.rest) _ _ _ i.stands _ _ _ found c.in_ok-read_row.ensures.added;
      row = (let e = ap length found in omega (arith, i.row));
    }

pub returns-clause-entries : goal.returns-clause-entries
returns-clause-entries c =
    let names = c.args.nodes.now in
    rows-done names (entries_below names c.args.rows.now.rest) _ _ _ c.loop-demands.invariant.stands (c.in_ok-advance.ensures.ended c.if-branch.false)
