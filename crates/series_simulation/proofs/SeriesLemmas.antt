-- What the pairs of a series promise, and those of them that pass a test.
use Rattle.std.proofs.Common.{◌≡◌, ℕ, ◌<◌, Bool, true, not, List, length, filter, get_or, Option, Some, None, arith, refl, subst}
use Rattle.std.specs.Prelude.{MatchOption}
use Rattle.std.specs.Option.{option_map}
use Rattle.std.proofs.lemmas.List.Elements.{All-filter, All-get_or, All-weaker, filter_passes}
use Rattle.std.proofs.lemmas.List.Filters.{length-filter_both}
use Rattle.te_model.specs.declared.network.Network.{Network}
use Rattle.te_model.specs.declared.route.Pair.{Pair}
use Rattle.te_model.specs.Network.{is_well_formed, node_count}
use Rattle.te_model.specs.Pairs.{AreDemands, no_pair}
use Rattle.te_model.proofs.FewPairs.{network_pairs_few}
use Rattle.failure.specs.Survivor.{survivor_of}
use Rattle.scheme.specs.Reach.{AllReached, ArePairsOf, IsPairOf}
use Rattle.local_recovery.specs.Rates.{ArePairs}
use Rattle.traffic_matrix.specs.declared.series.Series.{Series}
use Rattle.traffic_matrix.specs.declared.traffic.Traffic.{Traffic}
use Rattle.traffic_matrix.specs.Limits.{IsSeries}
use Rattle.traffic_matrix.specs.Text.{no_matrix}
use Rattle.traffic_matrix.specs.Traffic.{ArePredictionsFor, IsTraffic, demands_in, predicted_in, sent_in}
use Rattle.series_simulation.specs.Connected.{TellsPaths}
use Rattle.series_simulation.specs.Rows.{AreDemandsIfSome, given_demands}

-- pairs as schemes want them
pub series_pairs : (net : Network) (series : Series) → is_well_formed net ≡ true → IsSeries (node_count net) series → ArePairsOf net series.pairs.list
series_pairs net series formed is =
    let few = network_pairs_few net series.pairs.list formed is.pairs is.ascending in
    record { each = is.pairs; few = omega (arith, few) }

-- pairs as a step wants them
pub series_rates : (net : Network) (series : Series) → IsSeries (node_count net) series → ArePairs net series.pairs.list
series_rates net series is = record {
  nodes = λ k d below. let pair = is.pairs k d below in record { src = pair.src_inside; dst = pair.dst_inside };
  ascending = is.ascending;
}

-- those of the pairs that pass a test
pub passing_pairs : (net : Network) (test : Pair → Bool) (pairs : List Pair) → ArePairsOf net pairs → ArePairsOf net (filter test pairs)
passing_pairs net test pairs are = record {
  each = All-filter test (IsPairOf net) pairs are.each;
  few = omega (arith, are.few, length-filter_both test (λ p. not (test p)) (λ p. refl) pairs);
}

-- those that have a path are reached
pub passing_reached : (net : Network) (test : Pair → Bool) (pairs : List Pair) → ArePairsOf net pairs → TellsPaths net test → AllReached net (filter test pairs)
passing_reached net test pairs are tells p below =
    let pair = get_or (filter test pairs) p no_pair in
    let passes = All-get_or (λ (q : Pair). test q ≡ true) (filter test pairs) p no_pair below (filter_passes test pairs) in
    let of = All-get_or (IsPairOf net) (filter test pairs) p no_pair below (All-filter test (IsPairOf net) pairs are.each) in
    (tells pair of).0 passes

-- failures take no pair's nodes
pub surviving_pairs : (net : Network) (failed : List Bool) (pairs : List Pair) → ArePairsOf net pairs → ArePairsOf (survivor_of net failed).network pairs
surviving_pairs net failed pairs are = record {
  each = All-weaker (IsPairOf net) (IsPairOf (survivor_of net failed).network)
      (λ p of. record { src_inside = of.src_inside; dst_inside = of.dst_inside; apart = of.apart }) pairs are.each;
  few = are.few;
}

-- one demand for each pair, of what is sent and of what is predicted
pub sent_are : (n : ℕ) (traffic : Traffic) (k : ℕ) → IsTraffic n traffic → k < length traffic.sent.steps → AreDemands (length traffic.sent.pairs.list) (sent_in traffic k)
sent_are n traffic k is below = is.sent.matrices k no_matrix below

pub predicted_are : (n : ℕ) (traffic : Traffic) (k : ℕ) → IsTraffic n traffic → k < length traffic.sent.steps →
    AreDemandsIfSome (length traffic.sent.pairs.list) (predicted_in traffic k)
predicted_are n traffic k is below = go traffic.predicted is.predicted
  where
    go : (o : Option Series) → MatchOption o (Unit {0}) (ArePredictionsFor n traffic.sent) →
        AreDemandsIfSome (length traffic.sent.pairs.list) (option_map (λ s. demands_in s k) o)
    go None none = tt
    go (Some predictions) are =
        subst (λ (pairs : List Pair). AreDemands (length pairs) (demands_in predictions k)) are.pairs
        (are.series.matrices k no_matrix (omega (arith, below, are.count)))

-- so of what a scheme is given
pub given_are : (count : ℕ) (predicted : Option (List ℕ)) (demand : List ℕ) → AreDemandsIfSome count predicted → AreDemands count demand →
    AreDemands count (given_demands predicted demand)
given_are count None demand predictions are = are
given_are count (Some other) demand predictions are = predictions
