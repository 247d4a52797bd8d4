-- The paths that stand of a routing make a routing of the pairs that keep one, and rates over them hold no failed link.
use Rattle.std.proofs.Common.{◌≡◌, ℕ, Option, suc, ◌<◌, ◌≤◌, Bool, true, false, not, List, [], ◌∷◌, length, filter, map, get_or, All, arith, refl, sym, subst, ◌==◌, if◌then◌else◌}
use Rattle.std.specs.Prelude.{IsTrue}
use Rattle.std.specs.List.{list_all}
use Rattle.std.proofs.lemmas.Bool.{and_from, and_parts, false≢true}
use Rattle.std.proofs.lemmas.List.Elements.{All-cons, All-filter, All-from_get_or, All-get_or, All-head, All-map, All-nil, All-tail, All-weaker, filter_passes}
use Rattle.te_model.specs.declared.network.Network.{Network}
use Rattle.te_model.specs.declared.route.Pair.{Pair}
use Rattle.te_model.specs.declared.route.PathShare.{PathShare}
use Rattle.te_model.specs.declared.route.PairRoutes.{PairRoutes}
use Rattle.te_model.specs.Path.{is_path, no_routes, routes_at}
use Rattle.te_model.specs.PathRouting.{IsPathRouting, IsPathSplit}
use Rattle.te_model.specs.Validity.{list_below, paths_ascend}
use Rattle.te_model.proofs.ListOrder.{list_below-trans}
use Rattle.routing.specs.Merge.{HasLinks, links_at, no_path}
use Rattle.routing.specs.Normal.{with_whole_weight}
use Rattle.routing.specs.Routes.{HasFewPaths, IsRoutingOf}
use Rattle.routing.specs.Split.{total_weight}
use Rattle.routing.proofs.Ascending.{ascending_at, ascending_from}
use Rattle.routing.proofs.OwnPaths.{has_inside}
use Rattle.routing.proofs.Normalizing.{length-normalized, links_at-normalized, positive-normalized, some_weight, total-normalized}
use Rattle.routing.proofs.FewPaths.{tail_ascends}
use Rattle.local_recovery.specs.Rates.{pairs_of}
use Rattle.local_recovery.specs.Recovery.{is_clear, is_marked, scaled_routes}
use Rattle.local_recovery.proofs.Rescaling.{filter_small, normalized_paths}
use Rattle.series_simulation.specs.Laws.{AdaptedRatesStand}
use Rattle.series_simulation.specs.StandingPaths.{has_some_path, standing_routes}

-- the first of ascending paths is below all others
first_below : (p : PathShare) (ps : List PathShare) → paths_ascend (p ∷ ps) ≡ true → All (λ (q : PathShare). list_below p.links q.links ≡ true) ps
first_below p [] asc = All-nil (λ (q : PathShare). list_below p.links q.links ≡ true)
first_below p (q ∷ ps) asc =
    let parts = and_parts (list_below p.links q.links) (paths_ascend (q ∷ ps)) asc in
    All-cons (λ (r : PathShare). list_below p.links r.links ≡ true) q ps parts.0
    (All-weaker (λ (r : PathShare). list_below q.links r.links ≡ true) (λ (r : PathShare). list_below p.links r.links ≡ true)
    (λ r is. list_below-trans p.links q.links r.links parts.0 is) ps (first_below q ps parts.1))

first_more : (p : PathShare) (ps : List PathShare) → All (λ (q : PathShare). list_below p.links q.links ≡ true) ps → paths_ascend ps ≡ true → paths_ascend (p ∷ ps) ≡ true
first_more p [] below asc = refl
first_more p (q ∷ ps) below asc =
    and_from (list_below p.links q.links) (paths_ascend (q ∷ ps)) (All-head (λ (r : PathShare). list_below p.links r.links ≡ true) q ps below) asc

-- so do those of them that pass a test ascend
kept_ascend : (test : PathShare → Bool) (paths : List PathShare) → paths_ascend paths ≡ true → paths_ascend (filter test paths) ≡ true
kept_ascend test [] asc = refl
kept_ascend test (p ∷ ps) asc =
    go (test p) (All-filter test (λ (q : PathShare). list_below p.links q.links ≡ true) ps (first_below p ps asc)) (kept_ascend test ps (tail_ascends p ps asc))
  where
    go : (b : Bool) → All (λ (q : PathShare). list_below p.links q.links ≡ true) (filter test ps) → paths_ascend (filter test ps) ≡ true →
        paths_ascend (if b then p ∷ filter test ps else filter test ps) ≡ true
    go true below rest = first_more p (filter test ps) below rest
    go false below rest = rest

-- and weights do not change the order
normalized_ascend : (paths : List PathShare) → paths_ascend paths ≡ true → paths_ascend (with_whole_weight paths) ≡ true
normalized_ascend paths asc =
    ascending_from (with_whole_weight paths) (λ k below.
    let inside : suc k < length paths = omega (arith, below, length-normalized paths) in
    rw (links_at-normalized paths k (omega (arith, inside)), links_at-normalized paths (suc k) inside) (ascending_at paths k asc inside))

some_kept : (paths : List PathShare) → not (length (with_whole_weight paths) == 0) ≡ true → 1 ≤ length paths
some_kept [] some = absurd (false≢true some)
some_kept (p ∷ ps) some = omega arith

-- a split of which a path stands, on the paths that stand
scaled_split : (net : Network) (failed : List Bool) (r : PairRoutes) → IsPathSplit net r → has_some_path (scaled_routes failed r) ≡ true → IsPathSplit net (scaled_routes failed r)
scaled_split net failed r split some =
    let kept = filter (is_clear failed) r.paths in
    let least = some_kept kept some in
    let positive = All-filter (is_clear failed) (λ (s : PathShare). 1 ≤ s.weight) r.paths split.weights in
    let small : total_weight kept ≤ total_weight r.paths = (filter_small (is_clear failed) r.paths).1 in
    record {
      paths = normalized_paths net r.pair.src r.pair.dst kept
          (All-filter (is_clear failed) (λ (s : PathShare). IsTrue (is_path net r.pair.src r.pair.dst s.links)) r.paths split.paths);
      distinct = normalized_ascend kept (kept_ascend (is_clear failed) r.paths split.distinct);
      weights = positive-normalized kept least positive (omega (arith, small, split.whole));
      whole = total-normalized kept (some_weight kept least positive);
    }

-- the paths that stand of a routing
pub standing_splits : (net : Network) (failed : List Bool) (routes : List PairRoutes) → IsPathRouting net routes → IsPathRouting net (standing_routes failed routes)
standing_splits net failed [] splits = splits
standing_splits net failed (r ∷ rs) splits =
    go (has_some_path (scaled_routes failed r)) refl (standing_splits net failed rs (All-tail (IsPathSplit net) r rs splits))
  where
    go : (b : Bool) → has_some_path (scaled_routes failed r) ≡ b → IsPathRouting net (standing_routes failed rs) →
        IsPathRouting net (if b then scaled_routes failed r ∷ standing_routes failed rs else standing_routes failed rs)
    go true is rest =
        All-cons (IsPathSplit net) (scaled_routes failed r) (standing_routes failed rs) (scaled_split net failed r (All-head (IsPathSplit net) r rs splits) is) rest
    go false is rest = rest

pub standing_routing : (net : Network) (failed : List Bool) (routes : List PairRoutes) → IsPathRouting net routes →
    IsRoutingOf net (pairs_of (standing_routes failed routes)) (standing_routes failed routes)
standing_routing net failed routes splits = record { in_order = refl; splits = standing_splits net failed routes splits }

-- no pair has more paths than before
pub standing_few : (limit : ℕ) (failed : List Bool) (routes : List PairRoutes) → HasFewPaths limit routes → HasFewPaths limit (standing_routes failed routes)
standing_few limit failed routes few =
    All-filter has_some_path (λ (r : PairRoutes). length r.paths ≤ limit) (map (scaled_routes failed) routes)
    (All-map (λ (r : PairRoutes). length r.paths ≤ limit) (scaled_routes failed) routes
    (All-weaker (λ (r : PairRoutes). length r.paths ≤ limit) (λ (r : PairRoutes). length (with_whole_weight (filter (is_clear failed) r.paths)) ≤ limit)
    (λ r is. omega (arith, is, length-normalized (filter (is_clear failed) r.paths), (filter_small (is_clear failed) r.paths).0)) routes few))

-- weights do not change the links of paths
normalized_clear : (failed : List Bool) (paths : List PathShare) → All (λ (s : PathShare). is_clear failed s ≡ true) paths →
    All (λ (s : PathShare). is_clear failed s ≡ true) (with_whole_weight paths)
normalized_clear failed paths all =
    All-from_get_or (λ (s : PathShare). is_clear failed s ≡ true) (with_whole_weight paths) no_path (λ i inside.
    let below : i < length paths = omega (arith, inside, length-normalized paths) in
    subst (λ (links : List ℕ). list_all (λ h. not (is_marked failed h)) links ≡ true) (sym (links_at-normalized paths i below))
    (All-get_or (λ (s : PathShare). is_clear failed s ≡ true) paths i no_path below all))

standing_clear : (failed : List Bool) (routes : List PairRoutes) →
    All (λ (r : PairRoutes). All (λ (s : PathShare). is_clear failed s ≡ true) r.paths) (standing_routes failed routes)
standing_clear failed routes =
    let Clear = λ (r : PairRoutes). All (λ (s : PathShare). is_clear failed s ≡ true) r.paths in
    All-filter has_some_path Clear (map (scaled_routes failed) routes)
    (All-map Clear (scaled_routes failed) routes (λ k d below. normalized_clear failed (filter (is_clear failed) (get_or routes k d).paths) (filter_passes (is_clear failed) (get_or routes k d).paths)))

-- links of paths that stand are clear
links_clear : (failed : List Bool) (routes : List PairRoutes) (p : ℕ) (links : List ℕ) → HasLinks (routes_at (standing_routes failed routes) p).paths links →
    list_all (λ h. not (is_marked failed h)) links ≡ true
links_clear failed routes p links has =
    let standing = standing_routes failed routes in
    let inside : p < length standing = has_inside standing p links has in
    let clear = All-get_or (λ (r : PairRoutes). All (λ (s : PathShare). is_clear failed s ≡ true) r.paths) standing p no_routes inside (standing_clear failed routes) in
    subst (λ (ls : List ℕ). list_all (λ h. not (is_marked failed h)) ls ≡ true) has.2
    (All-get_or (λ (s : PathShare). is_clear failed s ≡ true) (routes_at standing p).paths has.0 no_path has.1 clear)

pub adapted_rates_stand : {Plan Note : Type 0} (limit : ℕ) (is_plan : Network → List Pair → Plan → Type 0)
    (relates : Network → List Pair → Plan → List ℕ → List PairRoutes → Note → Type 0) (low : Note → Option ℕ)
    (path_set : Plan → Option (List PairRoutes)) (adapts : Network → List PairRoutes → List ℕ → List PairRoutes → Option ℕ → Type 0) →
    AdaptedRatesStand limit is_plan relates low path_set adapts
adapted_rates_stand limit is_plan relates low path_set adapts net failed pairs predicted demand plan paths routes most bound is =
    All-from_get_or (λ (r : PairRoutes). All (λ (s : PathShare). is_clear failed s ≡ true) r.paths) routes no_routes (λ p below.
    All-from_get_or (λ (s : PathShare). is_clear failed s ≡ true) (routes_at routes p).paths no_path (λ k inside.
    links_clear failed paths p (links_at (routes_at routes p).paths k) (is.keeps p (links_at (routes_at routes p).paths k) (k, inside, refl))))
