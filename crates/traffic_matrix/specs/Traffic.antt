-- What a network is to carry, and what its schemes are given of it: the matrices themselves, or predictions of them.
use Rattle.std.specs.Prelude.{◌≡◌, ℕ, ◌||◌, Bool, List, [], ◌∷◌, Option, Some, None, filter, length, map, slice_index_or, if◌then◌else◌, MatchOption}
use Rattle.std.specs.List.{list_any, range_with_len}
use Rattle.std.specs.Option.{option_map}
use Rattle.te_model.specs.declared.demand.Matrix.{Matrix}
use Rattle.te_model.specs.declared.route.Pair.{Pair}
use Rattle.traffic_matrix.specs.declared.series.Series.{Series}
use Rattle.traffic_matrix.specs.declared.traffic.Traffic.{Traffic}
use Rattle.traffic_matrix.specs.Limits.{IsSeries}
use Rattle.traffic_matrix.specs.Pairs.{all_pairs, same_pair}
use Rattle.traffic_matrix.specs.Text.{no_matrix}

-- the demands of step k, and none where the series has no such step
abbrev pub demands_in : Series → ℕ → List ℕ
demands_in series k = (slice_index_or series.steps k no_matrix).demand

-- the demand of a pair by demands of these pairs, 0 where it is none of them
abbrev pub demand_for : List Pair → List ℕ → Pair → ℕ
demand_for [] demand pair = 0
demand_for (p ∷ ps) [] pair = 0
demand_for (p ∷ ps) (d ∷ ds) pair = if same_pair p pair then d else demand_for ps ds pair

-- the demands of the series in step k for each of these pairs
abbrev pub matrix_over : List Pair → Series → ℕ → Matrix
matrix_over pairs series k = record { demand = map (demand_for series.pairs.list (demands_in series k)) pairs }

-- the series over these pairs in so many steps: 0 of a pair or in a step that it does not have
abbrev pub series_over : List Pair → ℕ → Series → Series
series_over pairs count series = record { pairs = record { list = pairs }; steps = map (matrix_over pairs series) (range_with_len 0 count) }

-- the same series over these pairs, 0 of one that it does not have
abbrev pub with_pairs : List Pair → Series → Series
with_pairs pairs series = series_over pairs (length series.steps) series

-- the pair stands in the list
abbrev pub has_pair : List Pair → Pair → Bool
has_pair pairs pair = list_any (λ p. same_pair p pair) pairs

-- the pairs of n nodes that stand in either list, ascending
abbrev pub pairs_of_either : ℕ → List Pair → List Pair → List Pair
pairs_of_either n one other = filter (λ pair. has_pair one pair || has_pair other pair) (all_pairs n)

-- schemes are given the matrices that are sent
abbrev pub known_traffic : Series → Traffic
known_traffic sent = record { sent = sent; predicted = None }

-- schemes are given predictions: both series over the pairs of either, between n nodes, and with as many steps as are sent
abbrev pub predicted_traffic : ℕ → Series → Series → Traffic
predicted_traffic n sent predictions =
    let pairs = pairs_of_either n sent.pairs.list predictions.pairs.list in
    let count = length sent.steps in
    record { sent = series_over pairs count sent; predicted = Some (series_over pairs count predictions) }

-- the traffic of matrices, and of their predictions where there are some
abbrev pub traffic_of : ℕ → Series → Option Series → Traffic
traffic_of n sent None = known_traffic sent
traffic_of n sent (Some predictions) = predicted_traffic n sent predictions

-- the demands that are sent in step k
abbrev pub sent_in : Traffic → ℕ → List ℕ
sent_in traffic k = demands_in traffic.sent k

-- the demands that are predicted for step k, if any are
abbrev pub predicted_in : Traffic → ℕ → Option (List ℕ)
predicted_in traffic k = option_map (λ s. demands_in s k) traffic.predicted

-- predictions for a series: of the same pairs, in as many steps
pub record ArePredictionsFor (n : ℕ) (sent predictions : Series) : Type 0 where
  pub series : IsSeries n predictions
  pub pairs : predictions.pairs.list ≡ sent.pairs.list
  pub count : length predictions.steps ≡ length sent.steps

-- traffic of a network of n nodes
pub record IsTraffic (n : ℕ) (traffic : Traffic) : Type 0 where
  pub sent : IsSeries n traffic.sent
  pub predicted : MatchOption traffic.predicted (Unit {0}) (ArePredictionsFor n traffic.sent)
