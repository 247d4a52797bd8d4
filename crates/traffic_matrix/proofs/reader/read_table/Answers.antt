use Rattle.std.proofs.Common.{ℕ, ◌≡◌, ◌≢◌, sym, ap, subst, arith, List, Result, Ok, Err, length, length-drop}
use Rattle.std.specs.Prelude.{IfOk, IfErr}
use Rattle.csv_records.proofs.RowFacts.{passed}
use Rattle.traffic_matrix.specs.declared.entry.Entry.{Entry}
use Rattle.traffic_matrix.specs.declared.fault.MatrixFault.{MatrixFault}
use Rattle.traffic_matrix.specs.declared.fault.MatrixFault.TheVariants as fault
use Rattle.traffic_matrix.specs.Rows.{entries_of, entries_below}
use Rattle.traffic_matrix.specs.Shows.{Shows}
use Rattle.traffic_matrix.proofs.Reading.{entries-left, header-missing}
use Rattle.traffic_matrix.proofs.reader.read_table.Goals as goal

pub returns-in_err-read_header-clause-refused : goal.returns-in_err-read_header-clause-refused
returns-in_err-read_header-clause-refused c =
    let names = c.args.net.now.names in
    let rows = c.args.rows.now.rest in
    passed _ c.in_err-read_header.field-0.0 (λ (e : MatrixFault). e ≢ fault.Memory → entries_of names rows ≡ Err e) c.from_residual.ensures.1
    (λ other.
    let (same, missing) = c.in_err-read_header.ensures.refused other in
    rw same (header-missing names rows missing))

pub read_rows-requires-clause-rows : goal.read_rows-requires-clause-rows
read_rows-requires-clause-rows c =
    omega (arith, ap length c.in_ok-read_header.ensures.rest, length-drop 1 c.args.rows.now.rest)

left : (c : goal.After-drop-nodes-inside-4) → entries_below c.in_ok-nodes.nodes c.read_header.new.rows.rest ≡ entries_of c.args.net.now.names c.args.rows.now.rest
left c = sym (entries-left c.args.net.now.names c.in_ok-nodes.nodes _ _ c.in_ok-nodes.ensures c.in_ok-read_header.ensures.header c.in_ok-read_header.ensures.rest)

pub returns-clause-nodes : goal.returns-clause-nodes
returns-clause-nodes c = subst (λ (n : ℕ). IfOk c.read_rows.result (λ d. d.table.nodes ≡ n)) (ap length c.in_ok-nodes.ensures) c.read_rows.ensures.nodes

pub returns-clause-entries : goal.returns-clause-entries
returns-clause-entries c =
    subst (λ (a : Result (List Entry) MatrixFault). IfOk c.read_rows.result (λ d. (entries : List Entry) × (a ≡ Ok entries) × Shows entries d)) (left c) c.read_rows.ensures.entries

pub returns-clause-refused : goal.returns-clause-refused
returns-clause-refused c =
    subst (λ (a : Result (List Entry) MatrixFault). IfErr c.read_rows.result (λ e. e ≢ fault.Memory → a ≡ Err e)) (left c) c.read_rows.ensures.refused
