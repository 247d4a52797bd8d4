-- How long paths are, and how great distances and potentials.
use Rattle.std.proofs.Common.{◌≡◌, ℕ, suc, ◌+◌, ◌*◌, ◌<◌, ◌≤◌, true, false, ◌&&◌, List, [], ◌∷◌, Option, Some, None, length, arith, refl, ap, sym, subst, ◌∙◌, inl, inr, nat_lt, ◌==◌, get_or, slice_index, slice_index_or}
use Rattle.std.specs.Prelude.{All, unwrap_or, not}
use Rattle.std.proofs.lemmas.Bool.{cases_lt, and_parts, ltb-true, eqb-true}
use Rattle.std.proofs.lemmas.Bool.Decides.{nat_tests}
use Rattle.std.proofs.lemmas.List.{get_or-map, length-map, get_or_past}
use Rattle.std.proofs.lemmas.List.Elements.{All-nil, All-cons, All-head, All-tail, All-get_or}
use Rattle.std.proofs.Math.Nat.{mul-le-mul_right}
use Rattle.te_model.specs.declared.network.Network.{Network}
use Rattle.te_model.specs.Counting.{count_below}
use Rattle.te_model.specs.Network.{node_count, link_count, tail_of, head_of}
use Rattle.te_model.specs.Laws.{LinksJoinNodes}
use Rattle.te_model.specs.Path.{chains, is_path, is_distinct, has_number, nodes_visited}
use Rattle.te_model.proofs.Counts.{count_below-either, count_below-none, count_below-bound}
use Rattle.te_model.proofs.Sums.{sum_below-pick}
use Rattle.shortest_path.specs.Paths.{sum_along, IsDistance, ArePotentials, greatest}
use Rattle.shortest_path.proofs.Values.{listed_small}

-- of n numbers, as many stand in a list without repetitions as it is long
distinct_count : (n : ℕ) (xs : List ℕ) → is_distinct xs ≡ true → All (λ x. x < n) xs → count_below n (has_number xs) ≡ length xs
distinct_count n [] distinct small = count_below-none n (has_number []) (λ k below. refl)
distinct_count n (x ∷ xs) distinct small =
    let both = and_parts (not (has_number xs x)) (is_distinct xs) distinct in
    let rest = distinct_count n xs both.1 (All-tail (λ x. x < n) x xs small) in
    let one = sum_below-pick n x (λ k. 1) (All-head (λ x. x < n) x xs small) in
    let two = count_below-either n (λ k. x == k) (has_number xs) (λ k below is. apart k (eqb-true x k is) both.0) in
    omega (arith, rest, one, two)
  where
    apart : (k : ℕ) → x ≡ k → not (has_number xs x) ≡ true → has_number xs k ≡ false
    apart k e new = subst (λ j. has_number xs j ≡ false) e (grind (arith, nat_tests))

nodes_below : (net : Network) (s t : ℕ) (links : List ℕ) → LinksJoinNodes net → s < node_count net → chains net s t links ≡ true →
    All (λ v. v < node_count net) (nodes_visited net s links)
nodes_below net s t [] joins inside chain = All-cons (λ v. v < node_count net) s [] inside (All-nil (λ v. v < node_count net))
nodes_below net s t (h ∷ hs) joins inside chain =
    let outer = and_parts (nat_lt h (link_count net) && tail_of net h == s) (chains net (head_of net h) t hs) chain in
    let inner = and_parts (nat_lt h (link_count net)) (tail_of net h == s) outer.0 in
    let below = ltb-true h (link_count net) inner.0 in
    All-cons (λ v. v < node_count net) s (nodes_visited net (head_of net h) hs) inside
    (nodes_below net (head_of net h) t hs joins (joins h below).1 outer.1)

nodes_count : (net : Network) (s : ℕ) (links : List ℕ) → length (nodes_visited net s links) ≡ length links + 1
nodes_count net s [] = refl
nodes_count net s (h ∷ hs) = omega (arith, nodes_count net (head_of net h) hs)

-- a path has fewer links than the network has nodes
pub path_short : (net : Network) (s t : ℕ) (links : List ℕ) → LinksJoinNodes net → s < node_count net → is_path net s t links ≡ true →
    length links < node_count net
path_short net s t links joins inside path =
    let both = and_parts (chains net s t links) (is_distinct (nodes_visited net s links)) path in
    let count = distinct_count (node_count net) (nodes_visited net s links) both.1 (nodes_below net s t links joins inside both.0) in
    let bound = count_below-bound (node_count net) (has_number (nodes_visited net s links)) in
    omega (arith, count, bound, nodes_count net s links)

sum_along_small : (weights : List ℕ) (w : ℕ) (links : List ℕ) → ((h : ℕ) → slice_index weights h ≤ w) → sum_along weights links ≤ length links * w
sum_along_small weights w [] small = omega arith
sum_along_small weights w (h ∷ hs) small = omega (arith, small h, sum_along_small weights w hs small)

-- distances under weights of at most w are at most w for each node but one
pub distance_small : (net : Network) (weights : List ℕ) (w s t d : ℕ) → LinksJoinNodes net → s < node_count net → All (λ x. x ≤ w) weights →
    IsDistance net weights s t (Some d) → d ≤ node_count net * w
distance_small net weights w s t d joins inside small ((links, path, sum), least) =
    let short = path_short net s t links joins inside path in
    let bound = sum_along_small weights w links (listed_small w weights (λ h below. All-get_or (λ x. x ≤ w) weights h 0 below small)) in
    let scaled : length links * w ≤ node_count net * w = mul-le-mul_right w (omega arith) in
    omega (arith, bound, scaled, sum)

greatest_small : (bound : ℕ) (ds : List (Option ℕ)) → ((v d : ℕ) → slice_index_or ds v None ≡ Some d → d ≤ bound) → greatest ds ≤ bound
greatest_small bound [] small = omega arith
greatest_small bound (None ∷ ds) small = greatest_small bound ds (λ v d is. small (suc v) d is)
greatest_small bound (Some d ∷ ds) small = omega (arith, small 0 d refl, greatest_small bound ds (λ v e is. small (suc v) e is))

-- potentials are at most the greatest distance
pub potentials_small : (net : Network) (weights : List ℕ) (w i : ℕ) (potentials : List ℕ) → LinksJoinNodes net → i < node_count net → All (λ x. x ≤ w) weights →
    ArePotentials net weights i potentials → (v : ℕ) → slice_index potentials v ≤ node_count net * w
potentials_small net weights w i potentials joins inside small are =
    let (distances, found, is) = are.values in
    let bound = node_count net * w in
    let each : (v d : ℕ) → slice_index_or distances v None ≡ Some d → d ≤ bound = λ v d at. elim (cases_lt v (length distances)) [
      | inl below ↦ distance_small net weights w i v d joins inside small
          (subst (λ o. IsDistance net weights i v o) at (found.each v (omega (arith, below, found.count))))
      | inr past ↦ let none = get_or_past distances v None past in cc
    ]
    in
    let g = greatest distances in
    let most = greatest_small bound distances each in
    listed_small bound potentials (λ v below.
    let inside_v : v < length distances = omega (arith, below, ap (λ (xs : List ℕ). length xs) is, length-map distances (λ d. unwrap_or d g)) in
    let at : slice_index potentials v ≡ unwrap_or (slice_index_or distances v None) g =
    ap (λ (xs : List ℕ). get_or xs v 0) is ∙ get_or-map (λ d. unwrap_or d g) distances v None 0 inside_v
    in
    subst (λ x. x ≤ bound) (sym at) (go (slice_index_or distances v None) g bound (each v) most))
  where
    go : (o : Option ℕ) (g bound : ℕ) → ((d : ℕ) → o ≡ Some d → d ≤ bound) → g ≤ bound → unwrap_or o g ≤ bound
    go None g bound each most = most
    go (Some d) g bound each most = each d refl

-- a path between two nodes has a link, and no distance is below its weight
pub distance_large : (net : Network) (weights : List ℕ) (w s t d : ℕ) → (s ≡ t → ⊥) → ((h : ℕ) → h < link_count net → w ≤ slice_index weights h) →
    IsDistance net weights s t (Some d) → w ≤ d
distance_large net weights w s t d apart large ((links, path, sum), least) = go links (and_parts (chains net s t links) (is_distinct (nodes_visited net s links)) path).0 sum
  where
    go : (links : List ℕ) → chains net s t links ≡ true → sum_along weights links ≡ d → w ≤ d
    go [] chain sum = absurd (apart (eqb-true s t chain))
    go (h ∷ hs) chain sum =
        let outer = and_parts (nat_lt h (link_count net) && tail_of net h == s) (chains net (head_of net h) t hs) chain in
        let inner = and_parts (nat_lt h (link_count net)) (tail_of net h == s) outer.0 in
        omega (arith, large h (ltb-true h (link_count net) inner.0), sum)
