use Rattle.std.proofs.Common.{ℕ, ◌≡◌, ◌≢◌, ◌<◌, refl, arith, List, ◌∷◌, Err, length}
use Rattle.te_model.specs.declared.route.Pair.{Pair}
use Rattle.te_model.specs.Pairs.{IsNodePair}
use Rattle.csv_records.proofs.RowFacts.{passed}
use Rattle.traffic_matrix.specs.declared.entry.Entry.{Entry}
use Rattle.traffic_matrix.specs.declared.demands.Demands.{Demands}
use Rattle.traffic_matrix.specs.declared.fault.MatrixFault.{MatrixFault}
use Rattle.traffic_matrix.specs.declared.fault.MatrixFault.TheVariants as fault
use Rattle.traffic_matrix.specs.Rows.{with_demand_row}
use Rattle.traffic_matrix.specs.Shows.{Shows}
use Rattle.traffic_matrix.proofs.Reading.{entry-refused, entry-taken}
use Rattle.traffic_matrix.proofs.reader.read_row.Goals as goal

-- the row is refused by this fault, unless memory was wanting
abbrev Refused : List (List ℕ) → Demands → ℕ → List (List ℕ) → MatrixFault → Type 0
Refused names d row r e = e ≢ fault.Memory → (entries : List Entry) → Shows entries d → with_demand_row names entries row r ≡ Err e

within : (n count : ℕ) (p : Pair) → n ≡ count → (p.src < count) × (p.dst < count) → IsNodePair n p
within n count p e h = record { src = omega (arith, h.0); dst = omega (arith, h.1) }

pub returns-in_err-entry-clause-refused : goal.returns-in_err-entry-clause-refused
returns-in_err-entry-clause-refused c =
    let r = c.args.rows.now.current in
    passed _ c.in_err-entry.field-0.0 (Refused c.args.nodes.now c.args.demands.now c.args.row r) c.from_residual.ensures.1
    (λ _ entries shows. entry-refused c.args.nodes.now entries c.args.row r _ c.in_err-entry.ensures.refused)

pub accept-requires : goal.accept-requires
accept-requires c = within c.args.demands.now.table.nodes (length c.args.nodes.now) c.in_ok-entry.entry.pair c.requires.nodes c.in_ok-entry.ensures.nodes

pub returns-in_err-accept-clause-refused : goal.returns-in_err-accept-clause-refused
returns-in_err-accept-clause-refused c =
    let r = c.args.rows.now.current in
    passed _ c.in_err-accept.field-0.0 (Refused c.args.nodes.now c.args.demands.now c.args.row r) c.from_residual-in_err-accept.ensures.1
    (λ _ entries shows. entry-taken c.args.nodes.now entries c.args.row r c.in_ok-entry.entry _ c.in_ok-entry.ensures.entry (c.in_err-accept.ensures.refused entries shows))

pub put-requires-clause-pair : goal.put-requires-clause-pair
put-requires-clause-pair c = within c.args.demands.now.table.nodes (length c.args.nodes.now) c.in_ok-entry.entry.pair c.requires.nodes c.in_ok-entry.ensures.nodes

pub returns-in_err-put-clause-refused : goal.returns-in_err-put-clause-refused
returns-in_err-put-clause-refused c =
    passed _ fault.Memory (Refused c.args.nodes.now c.args.demands.now c.args.row c.args.rows.now.current) c.from_residual-in_err-put.ensures.1 (λ other. absurd (other refl))

pub returns-clause-added : goal.returns-clause-added
returns-clause-added c = λ entries shows.
    let e = c.in_ok-entry.entry in (
      e ∷ entries,
      entry-taken c.args.nodes.now entries c.args.row c.args.rows.now.current e _ c.in_ok-entry.ensures.entry (c.in_ok-accept.ensures.accepted entries shows),
      c.in_ok-put.ensures.shows entries shows,
    )
