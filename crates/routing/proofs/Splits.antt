-- What the splits of a routing give.
use Rattle.std.proofs.Common.{◌≡◌, ℕ, ◌<◌, ◌≤◌, Bool, true, false, ◌&&◌, List, [], ◌∷◌, length, arith, subst, if◌then◌else◌, All}
use Rattle.std.specs.Prelude.{nat_le, ◌==◌, IsTrue}
use Rattle.std.specs.List.{list_all}
use Rattle.std.proofs.lemmas.Bool.{and_parts, and_from, eqb-true, eq-eqb, le-leb, leb-true}
use Rattle.std.proofs.lemmas.List.Elements.{All-get_or}
use Rattle.std.proofs.lemmas.List.Sums.{sum_by-le-sum_by}
use Rattle.te_model.specs.declared.network.Network.{Network}
use Rattle.te_model.specs.declared.route.PathShare.{PathShare}
use Rattle.te_model.specs.declared.route.PairRoutes.{PairRoutes}
use Rattle.te_model.specs.declared.units.TheConstants.{SHARE_UNIT}
use Rattle.te_model.specs.Flow.{IsFlow}
use Rattle.te_model.specs.Path.{is_path, weight_on, share, routes_at, no_routes, has_number, source_of, destination_of}
use Rattle.te_model.specs.PathRouting.{IsPathRouting, IsPathSplit}
use Rattle.te_model.specs.Validity.{paths_ascend}
use Rattle.te_model.proofs.Shares.{weights_flow}
use Rattle.te_model.proofs.Tests.{all_from_tests, all_to_tests}
use Rattle.routing.specs.Split.{is_split, are_splits, total_weight}

pub whole_weight : (routes : List PairRoutes) (p : ℕ) → are_splits routes ≡ true → p < length routes → total_weight (routes_at routes p).paths ≡ SHARE_UNIT
whole_weight routes p splits below =
    let r = routes_at routes p in
    let all = all_from_tests is_split (λ r. is_split r ≡ true) (λ r e. e) routes splits in
    let split = All-get_or (λ r. is_split r ≡ true) routes p no_routes below all in
    eqb-true (total_weight r.paths) SHARE_UNIT
    (and_parts (paths_ascend r.paths && list_all (λ s. nat_le 1 s.weight) r.paths) (total_weight r.paths == SHARE_UNIT) split).1

-- the paths of a split have weights of at least 1
pub positive_weights : (routes : List PairRoutes) (p : ℕ) → are_splits routes ≡ true → p < length routes → All (λ s. 1 ≤ s.weight) (routes_at routes p).paths
positive_weights routes p splits below =
    let r = routes_at routes p in
    let all = all_from_tests is_split (λ r. is_split r ≡ true) (λ r e. e) routes splits in
    let split = All-get_or (λ r. is_split r ≡ true) routes p no_routes below all in
    let first = (and_parts (paths_ascend r.paths && list_all (λ s. nat_le 1 s.weight) r.paths) (total_weight r.paths == SHARE_UNIT) split).0 in
    all_from_tests (λ s. nat_le 1 s.weight) (λ s. 1 ≤ s.weight) (λ s e. leb-true 1 s.weight e) r.paths
    (and_parts (paths_ascend r.paths) (list_all (λ s. nat_le 1 s.weight) r.paths) first).1

pub weight_on-le : (paths : List PathShare) (e : ℕ) → weight_on paths e ≤ total_weight paths
weight_on-le paths e =
    sum_by-le-sum_by (λ s. if has_number s.links e then s.weight else 0) (λ s. s.weight) paths (λ s. at_most (has_number s.links e) s.weight)
  where
    at_most : (b : Bool) (w : ℕ) → (if b then w else 0) ≤ w
    at_most true w = omega arith
    at_most false w = omega arith

-- a share is at most the whole
pub share-le : (routes : List PairRoutes) (p e : ℕ) → are_splits routes ≡ true → p < length routes → share routes p e ≤ SHARE_UNIT
share-le routes p e splits below = omega (arith, whole_weight routes p splits below, weight_on-le (routes_at routes p).paths e)

-- a path routing keeps the invariant of routings
pub splits_of : (net : Network) (routes : List PairRoutes) → IsPathRouting net routes → are_splits routes ≡ true
splits_of net routes routing = all_to_tests is_split (IsPathSplit net) (λ r split.
    and_from (paths_ascend r.paths && list_all (λ s. nat_le 1 s.weight) r.paths) (total_weight r.paths == SHARE_UNIT)
    (and_from (paths_ascend r.paths) (list_all (λ s. nat_le 1 s.weight) r.paths) split.distinct
    (all_to_tests (λ s. nat_le 1 s.weight) (λ s. 1 ≤ s.weight) (λ s e. le-leb 1 s.weight e) r.paths split.weights))
    (eq-eqb (total_weight r.paths) SHARE_UNIT split.whole)) routes routing

-- the shares of a pair are a flow of the unit
pub share_flow : (net : Network) (routes : List PairRoutes) (p : ℕ) → IsPathRouting net routes → p < length routes →
    IsFlow net (share routes p) SHARE_UNIT (source_of routes p) (destination_of routes p)
share_flow net routes p routing below =
    let r = routes_at routes p in
    let split = All-get_or (IsPathSplit net) routes p no_routes below routing in
    let sound = all_to_tests (λ s. is_path net r.pair.src r.pair.dst s.links) (λ s. IsTrue (is_path net r.pair.src r.pair.dst s.links)) (λ s e. e) r.paths split.paths in
    subst (λ a. IsFlow net (share routes p) a r.pair.src r.pair.dst) split.whole (weights_flow net r.pair.src r.pair.dst r.paths sound)

-- a path split has a path
pub split_some : (net : Network) (r : PairRoutes) → IsPathSplit net r → 0 < length r.paths
split_some net r split = go r.paths split.whole
  where
    go : (paths : List PathShare) → total_weight paths ≡ SHARE_UNIT → 0 < length paths
    go [] whole = let none : 0 ≡ 1000000 = whole in absurd (omega (arith, none))
    go (s ∷ ss) whole = omega arith
