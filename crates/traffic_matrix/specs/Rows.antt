-- The series that the rows of a matrix file make, or the first fault.
use Rattle.std.specs.Prelude.{ℕ, ◌^◌, List, [], ◌∷◌, Bool, false, ◌&&◌, Option, Some, None, is_some, nat_lt, nat_le, ◌==◌, Result, Ok, Err, codes, if◌then◌else◌}
use Rattle.std.specs.List.{position}
use Rattle.std.specs.Str.{bytes_eq}
use Rattle.te_model.specs.declared.network.Network.{Network}
use Rattle.te_model.specs.Network.{node_count}
use Rattle.csv_records.specs.Field.{is_number, is_number_within, digits_from}
use Rattle.csv_records.specs.Rows.{and_then, fold_rows, fold_table, records_of}
use Rattle.traffic_matrix.specs.declared.entry.Entry.{Entry}
use Rattle.traffic_matrix.specs.declared.series.Series.{Series}
use Rattle.traffic_matrix.specs.declared.fault.MatrixFault.{MatrixFault}
use Rattle.traffic_matrix.specs.declared.fault.MatrixFault.TheVariants as fault
use Rattle.traffic_matrix.specs.Series.{demand_in, series_of}

-- the number of the node of this name
abbrev pub number_named : List (List ℕ) → List ℕ → Option ℕ
number_named names name = position (bytes_eq name) names

-- a row between two nodes
abbrev pub entry_between : ℕ → List ℕ → List ℕ → Option ℕ → Option ℕ → Result Entry MatrixFault
entry_between row step demand (Some s) (Some t) =
    if is_number step && is_number_within 0 (2 ^ 32) demand
    then Ok (record { step = digits_from 0 step; pair = record { src = s; dst = t }; demand = digits_from 0 demand })
    else Err (fault.Number row)
entry_between row step demand (Some s) None = Err (fault.UnknownNode row)
entry_between row step demand None t = Err (fault.UnknownNode row)

-- what the fields of a row say
unfoldable pub demand_entry : List (List ℕ) → ℕ → List (List ℕ) → Result Entry MatrixFault
demand_entry names row (step ∷ source ∷ target ∷ demand ∷ []) = entry_between row step demand (number_named names source) (number_named names target)
demand_entry names row _ = Err (fault.Fields row)

-- the step of the latest row
abbrev pub latest_step : List Entry → ℕ
latest_step [] = 0
latest_step (e ∷ es) = e.step

-- a row after those before it, of which the latest stands first
abbrev pub with_accepted_entry : List Entry → ℕ → Entry → Result (List Entry) MatrixFault
with_accepted_entry entries row e =
    if nat_lt e.step (latest_step entries) then Err (fault.Order row)
    else if is_some (demand_in entries e.step e.pair) then Err (fault.Repeated row)
    else if e.pair.src == e.pair.dst then Err (fault.SelfPair row)
    else if nat_le 1024 e.step then Err (fault.TooManySteps row)
    else Ok (e ∷ entries)

abbrev pub with_demand_row : List (List ℕ) → List Entry → ℕ → List (List ℕ) → Result (List Entry) MatrixFault
with_demand_row names entries row fields = and_then (with_accepted_entry entries row) (demand_entry names row fields)

abbrev pub is_matrix_header : List (List ℕ) → Bool
is_matrix_header (a ∷ b ∷ c ∷ d ∷ []) = bytes_eq a (codes "step") && bytes_eq b (codes "source") && bytes_eq c (codes "target") && bytes_eq d (codes "demand")
is_matrix_header _ = false

-- whether the first record is the header
abbrev pub begins_with_header : List (List (List ℕ)) → Bool
begins_with_header [] = false
begins_with_header (h ∷ rows) = is_matrix_header h

-- the rows below the header, the latest first
abbrev pub entries_below : List (List ℕ) → List (List (List ℕ)) → Result (List Entry) MatrixFault
entries_below names rows = fold_rows (with_demand_row names) [] 1 rows

-- the rows of a table, the latest first
abbrev pub entries_of : List (List ℕ) → List (List (List ℕ)) → Result (List Entry) MatrixFault
entries_of names records = fold_table is_matrix_header fault.Header (with_demand_row names) [] records

-- the rows of a file, the latest first
abbrev pub entries_in : Network → List ℕ → Result (List Entry) MatrixFault
entries_in net bytes = entries_of net.names (records_of bytes)

-- the series of a file for a network
abbrev pub series_in : Network → List ℕ → Result Series MatrixFault
series_in net bytes = and_then (λ entries. Ok (series_of (node_count net) entries)) (entries_in net bytes)
