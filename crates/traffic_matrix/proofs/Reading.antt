-- What the rows of a file lead to, one after another.
use Rattle.std.proofs.Common.{ℕ, ◌+◌, ◌≡◌, ◌∙◌, refl, sym, ap, List, [], ◌∷◌, drop, true, false, Result, Ok, Err}
use Rattle.std.proofs.lemmas.Bool.{false≢true}
use Rattle.te_model.specs.declared.network.Network.{Network}
use Rattle.te_model.specs.Network.{node_count}
use Rattle.csv_records.specs.Rows.{and_then, fold_rows}
use Rattle.csv_records.proofs.RowFacts.{no-record, no-header, after-header, rows-end, rows-fault, rows-more}
use Rattle.traffic_matrix.specs.declared.series.Series.{Series}
use Rattle.traffic_matrix.specs.declared.entry.Entry.{Entry}
use Rattle.traffic_matrix.specs.declared.demands.Demands.{Demands}
use Rattle.traffic_matrix.specs.declared.fault.MatrixFault.{MatrixFault}
use Rattle.traffic_matrix.specs.declared.fault.MatrixFault.TheVariants as fault
use Rattle.traffic_matrix.specs.Series.{series_of}
use Rattle.traffic_matrix.specs.Rows.{with_accepted_entry, demand_entry, with_demand_row, is_matrix_header, begins_with_header, entries_below, entries_of, entries_in, series_in}
use Rattle.traffic_matrix.specs.Shows.{Shows}

module _ (names : List (List ℕ)) where
  pub header-missing : (rows : List (List (List ℕ))) → begins_with_header rows ≡ false → entries_of names rows ≡ Err fault.Header
  header-missing [] h = no-record (with_demand_row names) is_matrix_header fault.Header [] [] refl
  header-missing (r ∷ rest) h = no-header (with_demand_row names) is_matrix_header fault.Header [] (r ∷ rest) r rest refl h

  pub header-first : (rows : List (List (List ℕ))) → begins_with_header rows ≡ true → entries_of names rows ≡ entries_below names (drop 1 rows)
  header-first [] h = absurd (false≢true h)
  header-first (r ∷ rest) h = after-header (with_demand_row names) is_matrix_header fault.Header [] (r ∷ rest) r rest refl h

  module _ (entries : List Entry) (row : ℕ) (r : List (List ℕ)) where
    pub entry-refused : (f : MatrixFault) → demand_entry names row r ≡ Err f → with_demand_row names entries row r ≡ Err f
    entry-refused f h = ap (and_then (with_accepted_entry entries row)) h

    pub entry-taken : (e : Entry) (answer : Result (List Entry) MatrixFault) → demand_entry names row r ≡ Ok e → with_accepted_entry entries row e ≡ answer → with_demand_row names entries row r ≡ answer
    entry-taken e answer said next = rw said next

-- the entries of a table are those below its header
pub entries-left : (own names : List (List ℕ)) (rows rest : List (List (List ℕ))) → names ≡ own → begins_with_header rows ≡ true → rest ≡ drop 1 rows
    → entries_of own rows ≡ entries_below names rest
entries-left own names rows rest same h left = rw (same, left) (header-first own rows h)

-- the table stands for the rows so far, and these lead to the answer with the rows that are left
pub record Standing (names : List (List ℕ)) (answer : Result (List Entry) MatrixFault) (d : Demands) (row : ℕ) (rest : List (List (List ℕ))) : Type 0 where
  pub entries : List Entry
  pub shows : Shows entries d
  pub goes : answer ≡ fold_rows (with_demand_row names) entries row rest

module _ (names : List (List ℕ)) (answer : Result (List Entry) MatrixFault) (d : Demands) (row : ℕ) (rows : List (List (List ℕ))) (s : Standing names answer d row rows) where
  pub row-refused : (r : List (List ℕ)) (rest : List (List (List ℕ))) (f : MatrixFault) → rows ≡ r ∷ rest
      → ((entries : List Entry) → Shows entries d → with_demand_row names entries row r ≡ Err f) → answer ≡ Err f
  row-refused r rest f at h = s.goes ∙ rows-fault (with_demand_row names) s.entries row rows r rest f at (h s.entries s.shows)

  pub row-added : (r : List (List ℕ)) (rest : List (List (List ℕ))) (next : Demands) → rows ≡ r ∷ rest
      → ((entries : List Entry) → Shows entries d → (more : List Entry) × (with_demand_row names entries row r ≡ Ok more) × Shows more next) → Standing names answer next (row + 1) rest
  row-added r rest next at h =
      let (more, step, shows) = h s.entries s.shows in
      record { entries = more; shows = shows; goes = s.goes ∙ rows-more (with_demand_row names) s.entries more row rows r rest at step }

  pub rows-done : rows ≡ [] → (entries : List Entry) × (answer ≡ Ok entries) × Shows entries d
  rows-done none = (s.entries, s.goes ∙ rows-end (with_demand_row names) s.entries row rows none, s.shows)

module _ (net : Network) (bytes : List ℕ) where
  pub series-refused : (f : MatrixFault) → entries_in net bytes ≡ Err f → series_in net bytes ≡ Err f
  series-refused f e = ap (and_then (λ es. Ok (series_of (node_count net) es))) e

  pub series-made : (d : Demands) (entries : List Entry) (series : Series) → entries_in net bytes ≡ Ok entries → Shows entries d → d.table.nodes ≡ node_count net
      → ((entries : List Entry) → Shows entries d → series ≡ series_of d.table.nodes entries) → series_in net bytes ≡ Ok series
  series-made d entries series made shows nodes is =
      ap (and_then (λ es. Ok (series_of (node_count net) es))) made
      ∙ ap (λ (n : ℕ). Ok (series_of n entries)) (sym nodes) ∙ ap (λ (x : Series). Ok x) (sym (is entries shows))
