-- What became of the demand of each pair in a step, and what its paths cost, as text.
use Rattle.std.specs.Prelude.{◌≡◌, ℕ, ◌<◌, ◌*◌, ◌==◌, List, [], ◌∷◌, ◌++◌, Option, Some, None, codes, decimal, flat_map, length, slice_index_or, sum_by, if◌then◌else◌}
use Rattle.std.specs.List.{join_with_byte, range_with_len}
use Rattle.std.specs.Option.{option_map}
use Rattle.te_model.specs.declared.network.Network.{Network}
use Rattle.te_model.specs.declared.route.Pair.{Pair}
use Rattle.te_model.specs.declared.route.PairRoutes.{PairRoutes}
use Rattle.te_model.specs.declared.route.PathShare.{PathShare}
use Rattle.te_model.specs.declared.units.TheConstants.{SHARE_UNIT}
use Rattle.te_model.specs.Network.{name_at}
use Rattle.te_model.specs.Pairs.{pair_at}
use Rattle.te_model.specs.Path.{routes_at}
use Rattle.shortest_path.specs.Costs.{costs_of}
use Rattle.shortest_path.specs.Paths.{sum_along, IsDistance}
use Rattle.flow_sim.specs.declared.result.PairResult.{PairResult}
use Rattle.series_simulation.specs.declared.step_row.SimulatedStep.{SimulatedStep}
use Rattle.experiment.specs.Text.{number_or_dash}

-- the sum of weight times cost over the paths
abbrev pub weighted_cost : List ℕ → List PathShare → ℕ
weighted_cost costs paths = sum_by (λ s. s.weight * sum_along costs s.links) paths

-- of paths whose weights sum to one million it is the mean cost of the pair's traffic, in millionths; without a path there is none
abbrev pub mean_cost : List ℕ → List PathShare → Option ℕ
mean_cost costs paths = if length paths == 0 then None else Some (weighted_cost costs paths)

-- of pair p, if any
abbrev pub least_cost_at : List (Option ℕ) → ℕ → Option ℕ
least_cost_at least p = slice_index_or least p None

-- for each pair the least sum of costs of links that lead from its source to its destination, on the whole network, or none where no
-- links do
pub record AreLeastCosts (net : Network) (pairs : List Pair) (least : List (Option ℕ)) : Type 0 where
  pub count : length least ≡ length pairs
  pub each : (p : ℕ) → p < length pairs →
      IsDistance net (costs_of net) (pair_at pairs p).src (pair_at pairs p).dst (least_cost_at least p)

-- a cost in millionths
abbrev pub in_millionths : Option ℕ → Option ℕ
in_millionths cost = option_map (λ c. c * SHARE_UNIT) cost

-- what stands for a pair that is not there
abbrev pub no_result : PairResult
no_result = record { offered = 0; delivered = 0; lost_full = 0; lost_failed = 0; lost_no_path = 0 }

abbrev pub result_at : SimulatedStep → ℕ → PairResult
result_at step p = slice_index_or step.row.result.per_pair p no_result

abbrev pub pairs_header : List ℕ
pairs_header = codes "scheme,source,target,offered,delivered,lost_full,lost_failed,lost_no_path,paths,cost,least_cost\n"

-- the line of a pair with these paths, this result and this least cost, whose fields are as the header names them
abbrev pub pair_result_line : Network → List ℕ → PairRoutes → PairResult → Option ℕ → List ℕ
pair_result_line net word routes result least =
    join_with_byte 44 (word ∷ name_at net routes.pair.src ∷ name_at net routes.pair.dst ∷ decimal result.offered ∷ decimal result.delivered
    ∷ decimal result.lost_full ∷ decimal result.lost_failed ∷ decimal result.lost_no_path ∷ decimal (length routes.paths)
    ∷ number_or_dash (mean_cost (costs_of net) routes.paths) ∷ number_or_dash (in_millionths least) ∷ [])
    ++ 10 ∷ []

-- the line of declared pair p: the paths are those that its demand takes
abbrev pub line_of_pair : Network → List (Option ℕ) → List ℕ → SimulatedStep → ℕ → List ℕ
line_of_pair net least word step p =
    pair_result_line net word (routes_at step.rates.routes p) (result_at step p) (least_cost_at least p)

-- a line for each declared pair, in order
abbrev pub pair_result_lines : Network → List (Option ℕ) → List ℕ → SimulatedStep → List ℕ
pair_result_lines net least word step = flat_map (line_of_pair net least word step) (range_with_len 0 (length step.rates.routes))
