-- A table: a header, and then rows that are read one after another, up to the first fault.
use Rattle.std.specs.Prelude.{ℕ, ◌+◌, List, [], ◌∷◌, Bool, Result, Ok, Err, if◌then◌else◌}
use Rattle.csv.specs.Reading.{default_config, strip_bom, records}

-- the next result of a value, where there is one
abbrev pub and_then : {S T E : Type 0} → (S → Result T E) → Result S E → Result T E
and_then next (Ok state) = next state
and_then next (Err e) = Err e

-- what the step makes of a state by each row in turn, the first row having this number
unfoldable pub fold_rows : {S E : Type 0} → (S → ℕ → List (List ℕ) → Result S E) → S → ℕ → List (List (List ℕ)) → Result S E
fold_rows step state row [] = Ok state
fold_rows step state row (r ∷ rs) = and_then (λ next. fold_rows step next (row + 1) rs) (step state row r)

-- the same after a header, or a fault where there is none
unfoldable pub fold_table : {S E : Type 0} → (List (List ℕ) → Bool) → E → (S → ℕ → List (List ℕ) → Result S E) → S → List (List (List ℕ)) → Result S E
fold_table is_header fault step start [] = Err fault
fold_table is_header fault step start (h ∷ rows) = if is_header h then fold_rows step start 1 rows else Err fault

-- the records of a file
abbrev pub records_of : List ℕ → List (List (List ℕ))
records_of bytes = records default_config (strip_bom bytes)
