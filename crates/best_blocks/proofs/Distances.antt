-- What a metric knows of the distances of the pairs.
use Rattle.std.proofs.Common.{◌≡◌, ℕ, ◌^◌, ◌<◌, ◌≤◌, Bool, true, false, List, Option, Some, None, length, arith, refl, ap, sym, ◌∙◌, subst, slice_index, inl, inr}
use Rattle.std.specs.Prelude.{All, unwrap_or}
use Rattle.std.proofs.lemmas.List.Elements.{All-get_or}
use Rattle.te_model.specs.declared.network.Network.{Network}
use Rattle.te_model.specs.declared.route.PairRoutes.{PairRoutes}
use Rattle.te_model.specs.Network.{is_well_formed, link_count, node_count}
use Rattle.te_model.specs.Path.{chains, routes_at, no_routes, source_of, destination_of}
use Rattle.te_model.specs.PathRouting.{IsPathSplit, IsPathRouting}
use Rattle.te_model.specs.Laws.{PairsJoinNodes}
use Rattle.te_model.proofs.WellFormed.{few_nodes, links_join}
use Rattle.shortest_path.specs.Graph.{distance_at}
use Rattle.shortest_path.specs.Pairs.{AreValues}
use Rattle.shortest_path.specs.Paths.{AreDistances, IsDistance}
use Rattle.shortest_path.proofs.PairDistances.{path_of_pair}
use Rattle.shortest_path.proofs.PathLengths.{distance_small}
use Rattle.shortest_path.proofs.Values.{listed_small}
use Rattle.best_blocks.specs.declared.metric.Metric.{Metric}
use Rattle.best_blocks.specs.Metric.{distance_in, IsMetric}
use Rattle.best_blocks.specs.Rows.{is_marked, distances_from, AreRowsFrom}
use Rattle.best_blocks.proofs.RowsFrom.{from_rows_read}

-- where links lead from a node with a row to another, the row has the distance
pub distance_known : (net : Network) (weights : List ℕ) (i v : ℕ) (row : List (Option ℕ)) (links : List ℕ) → AreDistances net weights i row →
    v < node_count net → chains net i v links ≡ true → IsDistance net weights i v (Some (unwrap_or (distance_at row v) 0))
distance_known net weights i v row links are inside chain = go (distance_at row v) (are.each v inside)
  where
    go : (o : Option ℕ) → IsDistance net weights i v o → IsDistance net weights i v (Some (unwrap_or o 0))
    go None none = absurd (none links chain)
    go (Some d) is = is

-- the distance of a pair whose source has a row
pair_distance_by : (net : Network) (routes : List PairRoutes) (marks : List Bool) (m : Metric) (p : ℕ) → IsPathRouting net routes → PairsJoinNodes net routes →
    IsMetric net routes marks m → p < length routes → AreDistances net m.weights (source_of routes p) (distances_from m.rows (source_of routes p)) →
    IsDistance net m.weights (source_of routes p) (destination_of routes p) (Some (slice_index m.distances p))
pair_distance_by net routes marks m p routing nodes is below row =
    let s = source_of routes p in
    let t = destination_of routes p in
    let (links, chain) = path_of_pair net (routes_at routes p) (All-get_or (IsPathSplit net) routes p no_routes below routing) in
    subst (λ x. IsDistance net m.weights s t (Some x)) (sym (is.distances_are.each p below))
    (distance_known net m.weights s t (distances_from m.rows s) links row (nodes p below).1 chain)

-- the distance of a pair whose source is marked
pub pair_distance : (net : Network) (routes : List PairRoutes) (marks : List Bool) (m : Metric) (p : ℕ) → IsPathRouting net routes → PairsJoinNodes net routes →
    IsMetric net routes marks m → p < length routes → is_marked marks (source_of routes p) ≡ true →
    IsDistance net m.weights (source_of routes p) (destination_of routes p) (Some (slice_index m.distances p))
pair_distance net routes marks m p routing nodes is below marked =
    pair_distance_by net routes marks m p routing nodes is below (is.rows_are.each (source_of routes p) (nodes p below).0 marked)

-- no distance that the rows give is above 2^35
pub metric_near : (net : Network) (routes : List PairRoutes) (marks : List Bool) (m : Metric) → is_well_formed net ≡ true → IsPathRouting net routes →
    PairsJoinNodes net routes → IsMetric net routes marks m → (p : ℕ) → slice_index m.distances p ≤ 2 ^ 35
metric_near net routes marks m formed routing nodes is =
    listed_small (2 ^ 35) m.distances (λ p below.
    let inside : p < length routes = omega (arith, below, is.distances_are.count) in
    go p inside (is_marked marks (source_of routes p)) refl)
  where
    by_row : (p : ℕ) → p < length routes → AreDistances net m.weights (source_of routes p) (distances_from m.rows (source_of routes p)) → slice_index m.distances p ≤ 2 ^ 35
    by_row p inside row =
        let known = pair_distance_by net routes marks m p routing nodes is inside row in
        let near =
        distance_small net m.weights (2 ^ 28) (source_of routes p) (destination_of routes p) (slice_index m.distances p) (links_join net formed)
        (nodes p inside).0 is.small known
        in
        omega (arith, near, few_nodes net formed)

    go : (p : ℕ) → p < length routes → (b : Bool) → is_marked marks (source_of routes p) ≡ b → slice_index m.distances p ≤ 2 ^ 35
    go p inside true marked = by_row p inside (is.rows_are.each (source_of routes p) (nodes p inside).0 marked)
    go p inside false marked = elim (is.rows_are.others (source_of routes p) (nodes p inside).0 marked) [
      | inl none ↦
          let zero : distance_in m.rows routes p ≡ 0 = ap (λ (r : List (Option ℕ)). unwrap_or (distance_at r (destination_of routes p)) 0) none in
          omega (arith, is.distances_are.each p inside, zero)
      | inr row ↦ by_row p inside row
    ]

-- the weights, the rows that were made of them as they were read, and the distances in these rows are a metric
pub metric_is : (net : Network) (routes : List PairRoutes) (marks : List Bool) (weights read : List ℕ) (rows : List (List (Option ℕ))) (m : Metric) →
    read ≡ weights → m.weights ≡ weights → m.rows ≡ rows → length weights ≡ link_count net → All (λ w. w ≤ 2 ^ 28) weights →
    AreRowsFrom (node_count net) net read marks rows → AreValues (length routes) (distance_in rows routes) m.distances → IsMetric net routes marks m
metric_is net routes marks weights read rows m is_read is_w is_r count small are values = record {
  count = ap (λ (ws : List ℕ). length ws) is_w ∙ count;
  small = subst (All (λ w. w ≤ 2 ^ 28)) (sym is_w) small;
  rows_are = from_rows_read (node_count net) net read m.weights marks marks rows m.rows (is_w ∙ sym is_read) refl is_r are;
  distances_are = subst (λ (rs : List (List (Option ℕ))). AreValues (length routes) (distance_in rs routes) m.distances) (sym is_r) values;
}
