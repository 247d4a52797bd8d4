-- Settled distances are least sums.
use Rattle.std.proofs.Common.{inl, inr, ◌≡◌, ℕ, ◌+◌, ◌<◌, ◌≤◌, Bool, true, false, List, [], Option, Some, None, length, arith, refl, ap, ◌∙◌, subst, slice_index, replicate}
use Rattle.std.proofs.lemmas.Bool.{and_from}
use Rattle.std.proofs.lemmas.List.{get_or-replicate}
use Rattle.te_model.specs.declared.network.Network.{Network}
use Rattle.te_model.specs.Network.{link_count}
use Rattle.te_model.specs.Path.{chains, is_path, is_distinct, nodes_visited}
use Rattle.shortest_path.specs.Graph.{Arc}
use Rattle.shortest_path.specs.declared.rows.Direction.TheVariants.{Forward, Backward}
use Rattle.shortest_path.specs.Graph.{AreSettledDistances, AtMost, distance_at}
use Rattle.shortest_path.specs.Paths.{IsLeastPath, sum_along, IsDistance, AreDistances}
use Rattle.shortest_path.specs.Links.{every_link, Walk, IsGraphOf}
use Rattle.shortest_path.proofs.Relaxing.{is-at_most}
use Rattle.shortest_path.proofs.Walks.{AllOpen, walk_of_chains, chains_of_walk, walk_of_trail, walk_of_back_trail, distance_below, back_distance_below}
use Rattle.shortest_path.specs.Least.{IsLeastWalk, AreLeastSums}
use Rattle.shortest_path.proofs.Tight.{least_walk_apart}
use Rattle.shortest_path.proofs.Loops.{without_loops}

pub all_open : (net : Network) → AllOpen net (every_link net)
all_open net h below = get_or-replicate (link_count net) h true false below

-- a walk without loops is a path
pub path_of_walk : (net : Network) (marks : List Bool) (s t : ℕ) (p : List ℕ) → Walk net marks s t p →
    is_distinct (nodes_visited net s p) ≡ true → is_path net s t p ≡ true
path_of_walk net marks s t p walk apart = and_from (chains net s t p) (is_distinct (nodes_visited net s p)) (chains_of_walk net marks s t p walk) apart

pub distances_of_settled : (net : Network) (lengths : List ℕ) (marks : List Bool) (graph : List (List Arc)) (s : ℕ) (distances : List (Option ℕ)) →
    AllOpen net marks → IsGraphOf net lengths marks Forward (link_count net) graph → AreSettledDistances graph s distances →
    length distances ≡ length graph → AreDistances net lengths s distances
distances_of_settled net lengths marks graph s distances open_all so settled count = record {
  count = count ∙ so.nodes;
  each = λ v below. go v (distance_at distances v) refl;
}
  where
    least : (v d : ℕ) → distance_at distances v ≡ Some d → (links : List ℕ) → chains net s v links ≡ true → d ≤ sum_along lengths links
    least v d is links chain =
        omega (
          arith,
          is-at_most (distance_at distances v) (0 + sum_along lengths links) d is
              (distance_below net lengths marks graph s distances so settled s 0 v links settled.start (walk_of_chains net marks s v links open_all chain)),
        )

    go : (v : ℕ) (o : Option ℕ) → distance_at distances v ≡ o → IsDistance net lengths s v o
    go v None is = λ links chain.
        subst (λ p. AtMost p (0 + sum_along lengths links)) is
        (distance_below net lengths marks graph s distances so settled s 0 v links settled.start (walk_of_chains net marks s v links open_all chain))
    go v (Some d) is =
        let (n, trail) = settled.reached v d is in
        let (links, walk, sum) = walk_of_trail net lengths marks graph s n v d so trail in
        let (p, walk_p, apart, less) = without_loops net lengths marks 0 s v links (λ h below. omega arith) walk in
        let low : d ≤ sum_along lengths p = least v d is p (chains_of_walk net marks s v p walk_p) in
        let high : sum_along lengths p ≤ d = elim less [
          | inl e ↦ omega (arith, ap (sum_along lengths) e, sum)
          | inr lt ↦ omega (arith, lt, sum)
        ]
        in
        ((p, path_of_walk net marks s v p walk_p apart, omega (arith, low, high)), least v d is)

-- the least walk over links that are all open is the least path
pub least_path_of_walk : (net : Network) (lengths : List ℕ) (marks : List Bool) (s t : ℕ) (p : Option (List ℕ)) → AllOpen net marks →
    ((h : ℕ) → h < link_count net → 1 ≤ slice_index lengths h) → IsLeastWalk net lengths marks s t p → IsLeastPath net lengths s t p
least_path_of_walk net lengths marks s t None open_all long least =
    λ links chain. least links (walk_of_chains net marks s t links open_all chain)
least_path_of_walk net lengths marks s t (Some p) open_all long least = (
  path_of_walk net marks s t p least.0 (least_walk_apart net lengths marks s t p long least),
  λ links chain. least.1 links (walk_of_chains net marks s t links open_all chain),
)

-- the distances of a graph against links are the least sums toward its source
pub sums_of_settled : (net : Network) (lengths : List ℕ) (marks : List Bool) (graph : List (List Arc)) (t : ℕ) (distances : List (Option ℕ)) →
    IsGraphOf net lengths marks Backward (link_count net) graph → AreSettledDistances graph t distances → length distances ≡ length graph →
    AreLeastSums net lengths marks t distances
sums_of_settled net lengths marks graph t distances so settled count = record {
  count = count ∙ so.nodes;
  reached = λ v d is. let (n, trail) = settled.reached v d is in walk_of_back_trail net lengths marks graph t n v d so trail;
  below = back_distance_below net lengths marks graph t distances so settled;
}

-- the least sum over all links is the distance
pub distance_of_sums : (net : Network) (lengths : List ℕ) (t : ℕ) (sums : List (Option ℕ)) → AreLeastSums net lengths (every_link net) t sums →
    (v : ℕ) → IsDistance net lengths v t (distance_at sums v)
distance_of_sums net lengths t sums are v = go (distance_at sums v) refl
  where
    least : (d : ℕ) → distance_at sums v ≡ Some d → (links : List ℕ) → chains net v t links ≡ true → d ≤ sum_along lengths links
    least d is links chain = is-at_most (distance_at sums v) (sum_along lengths links) d is
        (are.below v links (walk_of_chains net (every_link net) v t links (all_open net) chain))

    go : (o : Option ℕ) → distance_at sums v ≡ o → IsDistance net lengths v t o
    go None is = λ links chain.
        subst (λ o. AtMost o (sum_along lengths links)) is (are.below v links (walk_of_chains net (every_link net) v t links (all_open net) chain))
    go (Some d) is =
        let (links, walk, sum) = are.reached v d is in
        let (p, walk_p, apart, less) = without_loops net lengths (every_link net) 0 v t links (λ h below. omega arith) walk in
        let low : d ≤ sum_along lengths p = least d is p (chains_of_walk net (every_link net) v t p walk_p) in
        let high : sum_along lengths p ≤ d = elim less [
          | inl e ↦ omega (arith, ap (sum_along lengths) e, sum)
          | inr lt ↦ omega (arith, lt, sum)
        ]
        in
        ((p, path_of_walk net (every_link net) v t p walk_p apart, omega (arith, low, high)), least d is)

-- where links chain, some path leads there too
pub path_of_chains : (net : Network) (s t : ℕ) (links : List ℕ) → chains net s t links ≡ true → (p : List ℕ) × (is_path net s t p ≡ true)
path_of_chains net s t links chain =
    let marks = replicate (link_count net) true in
    let (p, walk, apart, less) = without_loops net [] marks 0 s t links (λ h below. omega arith) (walk_of_chains net marks s t links (all_open net) chain) in
    (p, path_of_walk net marks s t p walk apart)
