-- The first row of a matrix file whose pair is none of some pairs.
use Rattle.std.specs.Prelude.{◌≡◌, ℕ, ◌+◌, IsTrue, List, [], ◌∷◌, length, Option, None, Result, Ok, Err}
use Rattle.te_model.specs.declared.network.Network.{Network}
use Rattle.te_model.specs.declared.route.Pair.{Pair}
use Rattle.te_model.specs.Counting.{or_else, unless}
use Rattle.traffic_matrix.specs.declared.entry.Entry.{Entry}
use Rattle.traffic_matrix.specs.declared.fault.MatrixFault.{MatrixFault}
use Rattle.traffic_matrix.specs.Rows.{entries_in}
use Rattle.traffic_matrix.specs.Traffic.{has_pair}

-- the number of the first of the rows whose pair is none of these: the latest row stands first, and the rows are numbered from 1
abbrev pub first_row_outside : List Pair → List Entry → Option ℕ
first_row_outside pairs [] = None
first_row_outside pairs (e ∷ es) = or_else (first_row_outside pairs es) (unless (has_pair pairs e.pair) (1 + length es))

-- none where the rows have a fault
abbrev pub first_outside_of : List Pair → Result (List Entry) MatrixFault → Option ℕ
first_outside_of pairs (Ok entries) = first_row_outside pairs entries
first_outside_of pairs (Err fault) = None

-- of the rows of a file for a network
abbrev pub first_row_outside_in : Network → List Pair → List ℕ → Option ℕ
first_row_outside_in net pairs bytes = first_outside_of pairs (entries_in net bytes)

-- each pair of the one list stands in the other
abbrev pub AreAmong : List Pair → List Pair → Type 0
AreAmong few many = (pair : Pair) → IsTrue (has_pair few pair) → IsTrue (has_pair many pair)
