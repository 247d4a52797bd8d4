-- Brackets for every split over given paths, by the least sums of lengths along them.
use Rattle.std.proofs.Common.{◌≡◌, ℕ, ◌+◌, ◌*◌, ◌^◌, ◌<◌, ◌≤◌, true, List, [], ◌∷◌, length, map, take, min, arith, refl, sym, subst, ◌∙◌, inl, inr, get_or, slice_index, slice_index_or, nat_lt, ◌==◌, ◌&&◌, sum_by}
use Rattle.std.specs.Prelude.{All, Any, IsTrue}
use Rattle.std.specs.List.{list_all}
use Rattle.std.proofs.lemmas.Bool.{and_parts, cases_lt, eqb-true, ltb-true, lt-ltb}
use Rattle.std.proofs.lemmas.List.{get_or-map, length-map}
use Rattle.std.proofs.lemmas.List.Elements.{All-nil, All-head, All-tail, All-get_or, All-more, All-weaker}
use Rattle.std.proofs.lemmas.List.Sums.{sum_by-cons}
use Rattle.te_model.specs.declared.network.Network.{Network}
use Rattle.te_model.specs.declared.route.PathShare.{PathShare}
use Rattle.te_model.specs.declared.route.PairRoutes.{PairRoutes}
use Rattle.te_model.specs.declared.certificate.Row.{Row}
use Rattle.te_model.specs.declared.bracket.Bracket.{Bracket}
use Rattle.te_model.specs.Counting.{sum_below}
use Rattle.te_model.specs.LowerBound.{IsLowerBoundOnPaths}
use Rattle.te_model.specs.Network.{is_well_formed, node_count, link_count, tail_of, head_of, capacity_of}
use Rattle.te_model.specs.Path.{chains, is_path, is_distinct, nodes_visited, routes_at, no_routes}
use Rattle.te_model.specs.PathRouting.{IsPathSplit, IsPathRouting}
use Rattle.te_model.proofs.Lower.{distances_bound}
use Rattle.te_model.proofs.SimplePaths.{path_links, path_links_once}
use Rattle.te_model.proofs.Tests.{all_to_tests}
use Rattle.routing.specs.Merge.{no_path}
use Rattle.routing.specs.Routes.{AreDemands}
use Rattle.routing.specs.Utilisation.{parts}
use Rattle.te_model.proofs.WellFormed.{links_join}
use Rattle.scheme.specs.Low.{HasLow}
use Rattle.shortest_path.specs.Paths.{sum_along}
use Rattle.shortest_path.proofs.PathLengths.{path_short}
use Rattle.dual_bounds.specs.Dual.{unit_lengths, total_capacity, demand_by, IsBoundBy, IsBoundOf}
use Rattle.dual_bounds.specs.GivenPaths.{link_lists, AreFewLinks, AreShortest, IsShortest, IsBracketOnPaths}
use Rattle.dual_bounds.proofs.Choosing.{IsUnique, IsChoice}
use Rattle.te_model.proofs.WellFormed.{few_nodes}
use Rattle.dual_bounds.proofs.Sizes.{demand_small, no_length, no_demand, above_unit}

-- a bracket on given paths has no rows
abbrev pub keeps_none : List ℕ → List Row → Type 0
keeps_none lengths rows = rows ≡ []

-- a path of the network, wherever it starts
pub path_few : (net : Network) (s t : ℕ) (links : List ℕ) → is_well_formed net ≡ true → is_path net s t links ≡ true → AreFewLinks (link_count net) links
path_few net s t [] formed path = record { inside = All-nil (λ h. h < link_count net); few = omega arith }
path_few net s t (h ∷ hs) formed path =
    let chain = and_parts (chains net s t (h ∷ hs)) (is_distinct (nodes_visited net s (h ∷ hs))) path in
    let outer = and_parts (nat_lt h (link_count net) && tail_of net h == s) (chains net (head_of net h) t hs) chain.0 in
    let inner = and_parts (nat_lt h (link_count net)) (tail_of net h == s) outer.0 in
    let from : tail_of net h ≡ s = eqb-true (tail_of net h) s inner.1 in
    let start : s < node_count net = omega (arith, from, (links_join net formed h (ltb-true h (link_count net) inner.0)).0) in
    let short = path_short net s t (h ∷ hs) (links_join net formed) start path in
    record { inside = path_links net s t (h ∷ hs) path; few = omega (arith, short, few_nodes net formed) }

-- the paths of a path split are few links each
pub split_few : (net : Network) (r : PairRoutes) → is_well_formed net ≡ true → IsPathSplit net r → All (λ s. AreFewLinks (link_count net) s.links) r.paths
split_few net r formed split =
    All-weaker (λ s. IsTrue (is_path net r.pair.src r.pair.dst s.links)) (λ s. AreFewLinks (link_count net) s.links)
    (λ s path. path_few net r.pair.src r.pair.dst s.links formed path) r.paths split.paths

-- the least of the sums so far and that of one more path
pub shortest_more : (lengths : List ℕ) (paths : List PathShare) (i least next : ℕ) (s : PathShare) → i < length paths → s ≡ get_or paths i s →
    next ≡ min least (sum_along lengths s.links) → Any (λ t. sum_along lengths t.links ≡ least) paths →
    All (λ t. least ≤ sum_along lengths t.links) (take i paths) →
    Any (λ t. sum_along lengths t.links ≡ next) paths × All (λ t. next ≤ sum_along lengths t.links) (take (i + 1) paths)
shortest_more lengths paths i least next s below is lesser reached all = (
  elim (cases_lt (sum_along lengths s.links) least) [
    | inl less ↦ (i, s, below, sym is, omega (arith, lesser, less))
    | inr more ↦ let (k, t, inside, at, sum) = reached in (k, t, inside, at, omega (arith, sum, lesser, more))
  ],
  All-more (λ t. next ≤ sum_along lengths t.links) paths i s below
      (All-weaker (λ t. least ≤ sum_along lengths t.links) (λ t. next ≤ sum_along lengths t.links) (λ t le. omega (arith, le, lesser)) (take i paths) all)
      (subst (λ (t : PathShare). next ≤ sum_along lengths t.links) is (omega (arith, lesser))),
)

-- two least sums are one
shortest_unique : (lengths : List ℕ) (paths : List PathShare) (d e : ℕ) → IsShortest lengths paths d → IsShortest lengths paths e → d ≡ e
shortest_unique lengths paths d e is_d is_e =
    let (i, s, in_s, at_s, sum_s) = is_d.reached in
    let (j, t, in_t, at_t, sum_t) = is_e.reached in
    let up : e ≤ sum_along lengths s.links = subst (λ (x : PathShare). e ≤ sum_along lengths x.links) at_s (is_e.least i s in_s) in
    let down : d ≤ sum_along lengths t.links = subst (λ (x : PathShare). d ≤ sum_along lengths x.links) at_t (is_d.least j t in_t) in
    omega (arith, up, down, sum_s, sum_t)

pub shortests_unique : (routes : List PairRoutes) → IsUnique (length routes) (AreShortest routes)
shortests_unique routes lengths d e made_d made_e p below =
    shortest_unique lengths (routes_at routes p).paths (d p) (e p) (made_d p below) (made_e p below)

sum_small : (lengths : List ℕ) (m : ℕ) (links : List ℕ) → All (λ l. l ≤ 2 ^ 28) lengths → length lengths ≡ m → AreFewLinks m links → sum_along lengths links ≤ 2 ^ 36
sum_small lengths m links small count few =
    omega (arith, go links few.inside, few.few)
  where
    go : (links : List ℕ) → All (λ h. h < m) links → sum_along lengths links ≤ length links * 268435456
    go [] inside = omega arith
    go (h ∷ hs) inside =
        let below : h < m = All-head (λ h. h < m) h hs inside in
        let here : slice_index lengths h ≤ 268435456 = All-get_or (λ l. l ≤ 2 ^ 28) lengths h 0 (omega (arith, count, below)) small in
        omega (arith, here, go hs (All-tail (λ h. h < m) h hs inside))

pub shortest_small : (net : Network) (routes : List PairRoutes) (lengths : List ℕ) (distance : ℕ → ℕ) (p : ℕ) → is_well_formed net ≡ true → IsPathRouting net routes →
    length lengths ≡ link_count net → All (λ l. l ≤ 2 ^ 28) lengths → AreShortest routes lengths distance → p < length routes → distance p ≤ 2 ^ 36
shortest_small net routes lengths distance p formed routing count small are below =
    let r = routes_at routes p in
    let (k, s, inside, at, sum) = (are p below).reached in
    let few = split_few net r formed (All-get_or (IsPathSplit net) routes p no_routes below routing) in
    let short : AreFewLinks (link_count net) s.links = subst (λ (x : PathShare). AreFewLinks (link_count net) x.links) at (few k s inside) in
    omega (arith, sum, sum_small lengths (link_count net) s.links small count short)

pub has_low : (net : Network) (routes : List PairRoutes) (demand : List ℕ) (most : ℕ) (b : Bracket) → is_well_formed net ≡ true → IsPathRouting net routes →
    length routes < 2 ^ 32 → AreDemands (length routes) demand → IsBoundOf net (length routes) demand most (AreShortest routes) b → HasLow b
has_low net routes demand most b formed routing few demands of = (
  omega (arith, of.bound.low_den_is),
  omega (
    arith,
    of.bound.low_num_is,
    demand_small (length routes) demand of.distance few demands (λ p below.
        shortest_small net routes b.lengths of.distance p formed routing of.bound.count of.bound.small of.made below),
  ),
)

pub bound_of : (net : Network) (routes : List PairRoutes) (demand distances lengths : List ℕ) (most : ℕ) (b : Bracket) → length distances ≡ length routes →
    AreShortest routes lengths (slice_index distances) → b.lengths ≡ lengths → IsBoundBy net (length distances) demand most (slice_index distances) b →
    IsBoundOf net (length routes) demand most (AreShortest routes) b
bound_of net routes demand distances lengths most b count are same bound = record {
  distance = slice_index distances;
  made = subst (λ (l : List ℕ). AreShortest routes l (slice_index distances)) (sym same) are;
  bound = subst (λ n. IsBoundBy net n demand most (slice_index distances) b) count bound;
}

-- a sum along links in the two forms
sum_along_is : (lengths links : List ℕ) → sum_along lengths links ≡ sum_by (slice_index lengths) links
sum_along_is lengths [] = refl
sum_along_is lengths (h ∷ hs) = rw (sum_by-cons (slice_index lengths) h hs) (omega (arith, sum_along_is lengths hs))

path_at : (paths : List PathShare) (k : ℕ) → k < length (map (λ (s : PathShare). s.links) paths) →
    (k < length paths) × (slice_index_or (map (λ (s : PathShare). s.links) paths) k [] ≡ (slice_index_or paths k no_path).links)
path_at paths k below =
    let inside : k < length paths = omega (arith, below, length-map paths (λ (s : PathShare). s.links)) in
    (inside, get_or-map (λ (s : PathShare). s.links) paths k no_path [] inside)

pub is_lower : (net : Network) (routes : List PairRoutes) (demand : List ℕ) (most : ℕ) (b : Bracket) → is_well_formed net ≡ true → IsPathRouting net routes →
    IsBoundOf net (length routes) demand most (AreShortest routes) b →
    IsLowerBoundOnPaths net (length routes) (link_lists routes) (slice_index demand) b.low_num b.low_den
is_lower net routes demand most b formed routing of =
    let enough : sum_below (link_count net) (λ h. capacity_of net h * slice_index b.lengths h) ≤ b.low_den = omega (arith, of.bound.low_den_is) in
    let law =
    distances_bound net (length routes) (link_lists routes) once within (slice_index b.lengths) of.distance long (slice_index demand) b.low_den enough
    in
    subst (λ x. IsLowerBoundOnPaths net (length routes) (link_lists routes) (slice_index demand) x b.low_den) (sym of.bound.low_num_is) law
  where
    is_path_at : (p k : ℕ) → p < length routes → k < length (link_lists routes p) →
        is_path net (routes_at routes p).pair.src (routes_at routes p).pair.dst (slice_index_or (link_lists routes p) k []) ≡ true
    is_path_at p k below in' =
        let r = routes_at routes p in
        let at = path_at r.paths k in' in
        let split = All-get_or (IsPathSplit net) routes p no_routes below routing in
        subst (λ (l : List ℕ). is_path net r.pair.src r.pair.dst l ≡ true) (sym at.1) (split.paths k no_path at.0)

    once : (p k : ℕ) → p < length routes → k < length (link_lists routes p) → IsTrue (is_distinct (slice_index_or (link_lists routes p) k []))
    once p k below in' =
        path_links_once net (routes_at routes p).pair.src (routes_at routes p).pair.dst (slice_index_or (link_lists routes p) k []) (is_path_at p k below in')

    within : (p k : ℕ) → p < length routes → k < length (link_lists routes p) →
        IsTrue (list_all (λ h. nat_lt h (link_count net)) (slice_index_or (link_lists routes p) k []))
    within p k below in' =
        all_to_tests (λ h. nat_lt h (link_count net)) (λ h. h < link_count net) (λ h lt. lt-ltb h (link_count net) lt) (slice_index_or (link_lists routes p) k [])
        (path_links net (routes_at routes p).pair.src (routes_at routes p).pair.dst (slice_index_or (link_lists routes p) k []) (is_path_at p k below in'))

    long : (p k : ℕ) → p < length routes → k < length (link_lists routes p) →
        of.distance p ≤ sum_by (slice_index b.lengths) (slice_index_or (link_lists routes p) k [])
    long p k below in' =
        let r = routes_at routes p in
        let at = path_at r.paths k in' in
        let least : of.distance p ≤ sum_along b.lengths (slice_index_or (link_lists routes p) k []) =
        subst (λ (l : List ℕ). of.distance p ≤ sum_along b.lengths l) (sym at.1) ((of.made p below).least k no_path at.0)
        in
        omega (arith, least, sum_along_is b.lengths (slice_index_or (link_lists routes p) k []))

-- without links no pair is at a distance
no_hops : (net : Network) (routes : List PairRoutes) (hops : ℕ → ℕ) → AreShortest routes (unit_lengths net) hops → link_count net ≡ 0 →
    (p : ℕ) → p < length routes → hops p ≡ 0
no_hops net routes hops are none p below =
    let (k, s, inside, at, sum) = (are p below).reached in sym sum ∙ no_length net s.links none

pub is_bracket : (net : Network) (fixed routes : List PairRoutes) (demand : List ℕ) (came : List (List ℕ)) (b : Bracket) → is_well_formed net ≡ true →
    length routes ≡ length fixed → IsChoice net (length fixed) demand (parts net routes demand) (AreShortest fixed) keeps_none came b →
    IsBracketOnPaths net fixed routes demand b
is_bracket net fixed routes demand came b formed count choice =
    let n = length fixed in
    let above =
    above_unit net b.low_num b.low_den (demand_by n demand choice.hops) formed choice.above
    (λ none. no_demand n demand choice.hops (no_hops net fixed choice.hops choice.hops_are none))
    in
    record {
      no_rows = choice.rows_are;
      distance = choice.bound.distance;
      distance_is = choice.bound.made;
      hops = choice.hops;
      hops_are = choice.hops_are;
      bound = record {
        bound = subst (λ m. IsBoundBy net m demand (parts net routes demand) choice.bound.distance b) (sym count) choice.bound.bound;
        at_least_unit = subst (λ m. b.low_den * demand_by m demand choice.hops ≤ b.low_num * total_capacity net) (sym count) above;
      };
    }
