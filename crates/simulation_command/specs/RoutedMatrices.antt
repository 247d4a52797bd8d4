-- The file of matrices of which each pair is one of a routing.
use Rattle.std.specs.Prelude.{◌≡◌, List, ℕ, ◌++◌, codes, Option, Some, None, Result, Ok, Err}
use Rattle.std.specs.Fmt.{decimal}
use Rattle.te_model.specs.declared.network.Network.{Network}
use Rattle.te_model.specs.declared.route.Pair.{Pair}
use Rattle.traffic_matrix.specs.Outside.{first_row_outside_in}
use Rattle.traffic_matrix.specs.Rows.{series_in}
use Rattle.traffic_matrix.specs.declared.series.Series.{Series}
use Rattle.command_frame.specs.Reading.{Kind}
use Rattle.command_files.specs.InputFile.{input_limit, in_words}
use Rattle.command_files.specs.MatrixFile.{matrices_reason}

-- the words for a row whose pair is none of the routing
abbrev pub no_route_reason : ℕ → List ℕ
no_route_reason row = codes "no route at row " ++ decimal row

-- a series without such a row, and else these words, after any others
abbrev pub with_routes : Option ℕ → Result Series (List ℕ) → Result Series (List ℕ)
with_routes None answer = answer
with_routes (Some row) (Ok series) = Err (no_route_reason row)
with_routes (Some row) (Err words) = Err words

-- the files for a network and the pairs of a routing
abbrev pub routed_matrices : List Pair → Network → Kind Series
routed_matrices pairs network = record {
  limit = λ _. input_limit;
  gives = λ bytes answer. with_routes (first_row_outside_in network pairs bytes) (in_words matrices_reason (series_in network bytes)) ≡ answer;
}
