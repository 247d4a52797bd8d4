-- The paths that the demands of a step take, as text.
use Rattle.std.specs.Prelude.{ℕ, List, [], ◌∷◌, ◌++◌, codes, decimal, flat_map}
use Rattle.std.specs.List.{join_with_byte}
use Rattle.te_model.specs.declared.network.Network.{Network}
use Rattle.te_model.specs.declared.route.PathShare.{PathShare}
use Rattle.te_model.specs.declared.route.PairRoutes.{PairRoutes}
use Rattle.te_model.specs.Network.{name_at}
use Rattle.te_model.specs.Text.{numbers}
use Rattle.series_simulation.specs.declared.step_row.SimulatedStep.{SimulatedStep}

abbrev pub paths_header : List ℕ
paths_header = codes "scheme,source,target,weight,links\n"

-- the line of a path between nodes of these names, whose fields are as the header names them: the links by their numbers, a blank
-- between two
abbrev pub weighted_path_line : List ℕ → List ℕ → List ℕ → PathShare → List ℕ
weighted_path_line word source target path =
    join_with_byte 44 (word ∷ source ∷ target ∷ decimal path.weight ∷ numbers path.links ∷ []) ++ 10 ∷ []

-- a line for each path of the pair, in order
abbrev pub path_lines_of : Network → List ℕ → PairRoutes → List ℕ
path_lines_of net word routes = flat_map (weighted_path_line word (name_at net routes.pair.src) (name_at net routes.pair.dst)) routes.paths

-- of each pair, in order
abbrev pub weighted_path_lines : Network → List ℕ → SimulatedStep → List ℕ
weighted_path_lines net word step = flat_map (path_lines_of net word) step.rates.routes
