-- Which series are within the limits, as statements.
use Rattle.std.specs.Prelude.{ℕ, ◌≡◌, ◌≤◌, List, length, IsTrue, None, Ok}
use Rattle.te_model.specs.declared.network.Network.{Network}
use Rattle.te_model.specs.declared.route.Pair.{Pair}
use Rattle.te_model.specs.Network.{is_well_formed, node_count}
use Rattle.te_model.specs.Pairs.{AreDemands}
use Rattle.traffic_matrix.specs.declared.series.Series.{Series}
use Rattle.traffic_matrix.specs.First.{first_matrix}
use Rattle.traffic_matrix.specs.Rows.{series_in}
use Rattle.traffic_matrix.specs.Gravity.{gravity_of}
use Rattle.traffic_matrix.specs.Limits.{IsSeries}
use Rattle.traffic_matrix.specs.Outside.{AreAmong, first_row_outside_in}
use Rattle.traffic_matrix.specs.Traffic.{IsTraffic, has_pair, known_traffic, predicted_traffic}

-- the series that the bytes of a file make for a network is within the limits
abbrev pub SeriesAreInRange : Type 0
SeriesAreInRange =
    (net : Network) (bytes : List ℕ) (series : Series) → IsTrue (is_well_formed net) → series_in net bytes ≡ Ok series →
    IsSeries (node_count net) series

-- the first matrix of a series that is within the limits has one demand for each declared pair, which is within the limit
abbrev pub FirstMatricesAreInRange : Type 0
FirstMatricesAreInRange = (n : ℕ) (series : Series) → IsSeries n series → AreDemands (length series.pairs.list) (first_matrix series).demand

-- a series that a seed draws is within the limits
abbrev pub GravityIsInRange : Type 0
GravityIsInRange = (n seed steps : ℕ) → steps ≤ 1024 → IsSeries n (gravity_of n seed steps)

-- a series is traffic, and so is a series with any other one as its predictions
abbrev pub TrafficIsInRange : Type 0
TrafficIsInRange =
    (n : ℕ) (sent predictions : Series) → IsSeries n sent → IsSeries n predictions →
    IsTraffic n (known_traffic sent) × IsTraffic n (predicted_traffic n sent predictions)

-- predictions of no further pair leave what is sent as it is
abbrev pub SentStays : Type 0
SentStays =
    (n : ℕ) (sent predictions : Series) → IsSeries n sent →
    ((pair : Pair) → IsTrue (has_pair predictions.pairs.list pair) → IsTrue (has_pair sent.pairs.list pair)) →
    (predicted_traffic n sent predictions).sent ≡ sent

-- a file without a row outside some pairs declares no other pair
abbrev pub PairsStayInside : Type 0
PairsStayInside =
    (net : Network) (pairs : List Pair) (bytes : List ℕ) (series : Series) → series_in net bytes ≡ Ok series →
    first_row_outside_in net pairs bytes ≡ None → AreAmong series.pairs.list pairs
