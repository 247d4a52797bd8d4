-- The mean of sweeps for one pair: its paths of the sweeps, in parts by what each counts.
use Rattle.std.proofs.Common.{◌≡◌, ℕ, ◌+◌, ◌<◌, ◌≤◌, true, List, [], ◌∷◌, ◌++◌, length, map, get_or, arith, ap, sym, ◌∙◌, subst, All}
use Rattle.std.proofs.lemmas.List.{get_or-map, length-map}
use Rattle.std.proofs.lemmas.List.Elements.{All-get_or, All-weaker}
use Rattle.std.proofs.lemmas.List.Sums.{sum_by-le}
use Rattle.te_model.specs.declared.network.Network.{Network}
use Rattle.te_model.specs.declared.route.Pair.{Pair}
use Rattle.te_model.specs.declared.route.PairRoutes.{PairRoutes}
use Rattle.te_model.specs.declared.route.PathShare.{PathShare}
use Rattle.te_model.specs.declared.units.TheConstants.{SHARE_UNIT}
use Rattle.te_model.specs.Path.{is_path, no_routes, routes_at}
use Rattle.te_model.specs.PathRouting.{IsPathSplit}
use Rattle.te_model.proofs.Choices.{pushed_each}
use Rattle.routing.specs.Merge.{HasLinks, links_at, no_path, IsMerge}
use Rattle.routing.specs.Normal.{with_whole_weight}
use Rattle.routing.specs.Split.{total_weight}
use Rattle.routing.proofs.Merged.{merged_split}
use Rattle.routing.proofs.Normalizing.{length-normalized, links_at-normalized, positive-normalized, some_weight, total-normalized}
use Rattle.rate_sweeps.specs.declared.mix.Sweep.{Sweep}
use Rattle.rate_sweeps.specs.Sweeps.{ArePathsOfPairs, IsWeight, paths_in, paths_of_pair}

-- what sweeps count together is within the unit of shares
pub few_count : (parts : List PathShare) → length parts ≤ 32 → All (λ s. IsWeight s.weight) parts → total_weight parts ≤ SHARE_UNIT
few_count parts few weights =
    let le = sum_by-le (λ (s : PathShare). s.weight) 30000 parts
    (All-weaker (λ (s : PathShare). IsWeight s.weight) (λ (s : PathShare). s.weight ≤ 30000) (λ s is. is.1) parts weights)
    in
    omega (arith, le, few)

pub parts_positive : (parts : List PathShare) → All (λ s. IsWeight s.weight) parts → All (λ s. 1 ≤ s.weight) parts
parts_positive parts weights = All-weaker (λ (s : PathShare). IsWeight s.weight) (λ (s : PathShare). 1 ≤ s.weight) (λ s is. is.0) parts weights

-- normalized parts have the same paths
normalized_links : (parts : List PathShare) (links : List ℕ) → HasLinks (with_whole_weight parts) links → HasLinks parts links
normalized_links parts links (i, below, at) =
    let inside : i < length parts = omega (arith, below, length-normalized parts) in
    (i, inside, sym (links_at-normalized parts i inside) ∙ at)

-- each path of a mean is one of the parts
pub mixed_links : (parts merged : List PathShare) (links : List ℕ) → IsMerge (with_whole_weight parts) merged → HasLinks merged links → HasLinks parts links
mixed_links parts merged links so has = normalized_links parts links (so.only links has)

-- a mean of paths of a pair is a split of the pair
pub mixed_split : (net : Network) (pair : Pair) (parts merged : List PathShare) → 1 ≤ length parts → length parts ≤ 32 → All (λ s. IsWeight s.weight) parts →
    ((links : List ℕ) → HasLinks parts links → is_path net pair.src pair.dst links ≡ true) → IsMerge (with_whole_weight parts) merged →
    IsPathSplit net (record { pair = pair; paths = merged })
mixed_split net pair parts merged some few weights sound so =
    merged_split net pair (with_whole_weight parts) merged so (λ links has. sound links (normalized_links parts links has))
    (positive-normalized parts some (parts_positive parts weights) (few_count parts few weights))
    (total-normalized parts (some_weight parts some (parts_positive parts weights)))

-- and has no more paths than there are sweeps
pub mixed_few : (parts merged : List PathShare) → IsMerge (with_whole_weight parts) merged → length merged ≤ length parts
mixed_few parts merged so = omega (arith, so.few, length-normalized parts)

-- there are as many parts as sweeps
pub parts_count : (sweeps : List Sweep) (p : ℕ) (parts : List PathShare) → map (λ s. s.links) parts ≡ paths_of_pair sweeps p → length parts ≡ length sweeps
parts_count sweeps p parts are =
    sym (length-map parts (λ (s : PathShare). s.links)) ∙ ap (λ (l : List (List ℕ)). length l) are ∙ length-map sweeps (λ (s : Sweep). get_or (paths_in s) p [])

-- the paths of the parts of pair p are those of the sweeps
pub part_is : (sweeps : List Sweep) (p : ℕ) (parts : List PathShare) (links : List ℕ) → map (λ s. s.links) parts ≡ paths_of_pair sweeps p → HasLinks parts links →
    (j : ℕ) × (j < length sweeps) × (get_or (paths_of_pair sweeps p) j [] ≡ links)
part_is sweeps p parts links are (j, below, at) =
    let count = parts_count sweeps p parts are in
    let here : get_or (map (λ (s : PathShare). s.links) parts) j [] ≡ links_at parts j = get_or-map (λ (s : PathShare). s.links) parts j no_path [] below in
    (j, omega (arith, below, count), subst (λ (l : List (List ℕ)). get_or l j [] ≡ links) are (here ∙ at))

-- a path of pair p in a sweep leads from its source to its destination
pub way_is : (net : Network) (routes : List PairRoutes) (sweeps : List Sweep) (p : ℕ) (links : List ℕ) → p < length routes →
    All (λ s. ArePathsOfPairs net routes (paths_in s)) sweeps → (j : ℕ) × (j < length sweeps) × (get_or (paths_of_pair sweeps p) j [] ≡ links) →
    is_path net (routes_at routes p).pair.src (routes_at routes p).pair.dst links ≡ true
way_is net routes sweeps p links below ways (j, inside, at) =
    let none : Sweep = record { weight = 0; paths = [] } in
    let here = (All-get_or (λ (s : Sweep). ArePathsOfPairs net routes (paths_in s)) sweeps j none inside ways).each p below in
    let same = get_or-map (λ (s : Sweep). get_or (paths_in s) p []) sweeps j none [] inside in
    subst (λ (l : List ℕ). is_path net (routes_at routes p).pair.src (routes_at routes p).pair.dst l ≡ true) (sym same ∙ at) here

-- the routes of one pair more, and where their paths come from
pub pushed_only : (P : ℕ → List ℕ → Type 0) (routes : List PairRoutes) (r : PairRoutes) (n : ℕ) → length routes ≡ n →
    ((p : ℕ) (links : List ℕ) → p < n → HasLinks (routes_at routes p).paths links → P p links) → ((links : List ℕ) → HasLinks r.paths links → P n links) →
    (p : ℕ) (links : List ℕ) → p < n + 1 → HasLinks (routes_at (routes ++ r ∷ []) p).paths links → P p links
pushed_only P routes r n count old new p links below =
    pushed_each (λ q (x : PairRoutes). (hs : List ℕ) → HasLinks x.paths hs → P q hs) routes r no_routes n count (λ q lt hs. old q hs lt) new p below links
