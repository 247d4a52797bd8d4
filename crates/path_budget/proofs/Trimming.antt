-- Trimmed routings are routings of the same pairs.
use Rattle.std.proofs.Common.{inl, inr, ◌≡◌, ℕ, suc, ◌+◌, ◌<◌, ◌≤◌, true, ◌&&◌, List, [], ◌∷◌, length, get_or, arith, ap, sym, ◌∙◌, subst, All, nat_le, ◌==◌}
use Rattle.std.specs.Prelude.{IsTrue}
use Rattle.std.specs.List.{list_all}
use Rattle.std.proofs.lemmas.Bool.{and_from, and_parts, cases_lt, eqb-true, eq-eqb, leb-true, le-leb, lt-ltb}
use Rattle.std.proofs.lemmas.Simd.{map-map}
use Rattle.std.proofs.lemmas.List.Elements.{All-get_or, All-from_get_or, All-map, All-weaker}
use Rattle.std.proofs.lemmas.List.Sums.{get_or-le-sum_by, sum_by-take-le}
use Rattle.te_model.specs.declared.network.Network.{Network}
use Rattle.te_model.specs.declared.route.Pair.{Pair}
use Rattle.te_model.specs.declared.route.PathShare.{PathShare}
use Rattle.te_model.specs.declared.route.PairRoutes.{PairRoutes}
use Rattle.te_model.specs.declared.units.TheConstants.{SHARE_UNIT}
use Rattle.te_model.specs.Counting.{count_below}
use Rattle.te_model.specs.Apportion.{comes_before}
use Rattle.te_model.specs.Path.{is_path}
use Rattle.te_model.specs.PathRouting.{IsPathSplit}
use Rattle.te_model.specs.Validity.{list_below, paths_ascend}
use Rattle.te_model.proofs.Counts.{count_below-all, count_below-bound}
use Rattle.te_model.proofs.Ranks.{count_among_first}
use Rattle.te_model.proofs.Tests.{all_from_tests, all_to_tests}
use Rattle.routing.specs.Merge.{no_path, links_at}
use Rattle.routing.specs.Normal.{with_whole_weight}
use Rattle.routing.specs.Routes.{IsRoutingOf, HasFewPaths}
use Rattle.routing.specs.Split.{is_split, are_splits, total_weight}
use Rattle.routing.proofs.Ascending.{ascending_at, ascending_from}
use Rattle.routing.proofs.Normalizing.{length-normalized, links_at-normalized, positive-normalized, some_weight, total-normalized}
use Rattle.path_budget.specs.Budget.{weight_at, is_heavy, heaviest, trimmed_pair, trimmed_routes}
use Rattle.path_budget.proofs.Heaviest.{heavy_so_far}

-- a split of some demand, wherever its paths lead
pub record IsSplit (xs : List PathShare) : Type 0 where
  pub ascending : paths_ascend xs ≡ true
  pub weights : All (λ s. 1 ≤ s.weight) xs
  pub whole : total_weight xs ≡ SHARE_UNIT

pub split_parts : (r : PairRoutes) → is_split r ≡ true → IsSplit r.paths
split_parts r split =
    let outer = and_parts (paths_ascend r.paths && list_all (λ s. nat_le 1 s.weight) r.paths) (total_weight r.paths == SHARE_UNIT) split in
    let inner = and_parts (paths_ascend r.paths) (list_all (λ s. nat_le 1 s.weight) r.paths) outer.0 in
    record {
      ascending = inner.0;
      weights = all_from_tests (λ s. nat_le 1 s.weight) (λ s. 1 ≤ s.weight) (λ s e. leb-true 1 s.weight e) r.paths inner.1;
      whole = eqb-true (total_weight r.paths) SHARE_UNIT outer.1;
    }

split_from : (r : PairRoutes) → IsSplit r.paths → is_split r ≡ true
split_from r is =
    and_from (paths_ascend r.paths && list_all (λ s. nat_le 1 s.weight) r.paths) (total_weight r.paths == SHARE_UNIT)
    (and_from (paths_ascend r.paths) (list_all (λ s. nat_le 1 s.weight) r.paths) is.ascending
    (all_to_tests (λ s. nat_le 1 s.weight) (λ s. 1 ≤ s.weight) (λ s e. le-leb 1 s.weight e) r.paths is.weights))
    (eq-eqb (total_weight r.paths) SHARE_UNIT is.whole)

-- what stays of a split
pub record IsKept (budget : ℕ) (xs kept : List PathShare) : Type 0 where
  pub some : 1 ≤ length kept
  pub few : length kept ≤ budget
  pub ascending : paths_ascend kept ≡ true
  pub weights : All (λ s. 1 ≤ s.weight) kept
  pub whole : total_weight kept ≤ SHARE_UNIT
  pub from : (k : ℕ) → k < length kept → (i : ℕ) × (i < length xs) × (get_or kept k no_path ≡ get_or xs i no_path)

heavy_count : (budget : ℕ) (xs : List PathShare) → 1 ≤ budget → 1 ≤ length xs →
    (1 ≤ count_below (length xs) (is_heavy budget xs)) × (count_below (length xs) (is_heavy budget xs) ≤ budget)
heavy_count budget xs some more = elim (cases_lt (length xs) budget) [
  | inl less ↦
      let all = count_below-all (length xs) (is_heavy budget xs) (λ k below.
      lt-ltb (count_below (length xs) (λ j. comes_before (weight_at xs) j k)) budget
      (omega (arith, less, count_below-bound (length xs) (λ j. comes_before (weight_at xs) j k))))
      in
      (omega (arith, all, more), omega (arith, all, less))
  | inr enough ↦
      let is = count_among_first (length xs) (weight_at xs) budget (total_weight xs + 1) enough
      (λ k below. omega (arith, get_or-le-sum_by (λ (s : PathShare). s.weight) xs k no_path below))
      in
      (omega (arith, is, some), omega (arith, is))
]

some_paths : (xs : List PathShare) → IsSplit xs → 1 ≤ length xs
some_paths [] is = let none : 0 ≡ SHARE_UNIT = is.whole in absurd (omega (arith, none))
some_paths (s ∷ ss) is = omega arith

pub kept_of_split : (budget : ℕ) (xs : List PathShare) → 1 ≤ budget → IsSplit xs → IsKept budget xs (heaviest budget xs)
kept_of_split budget xs some is =
    let far = heavy_so_far budget xs (length xs) is.ascending (omega arith) in
    let count = heavy_count budget xs some (some_paths xs is) in
    record {
      some = omega (arith, far.count, count.0);
      few = omega (arith, far.count, count.1);
      ascending = far.ascending;
      weights = All-from_get_or (λ s. 1 ≤ s.weight) (heaviest budget xs) no_path (λ k below.
          let (i, inside, at) = far.from k below in
          subst (λ (s : PathShare). 1 ≤ s.weight) (sym at) (All-get_or (λ s. 1 ≤ s.weight) xs i no_path inside is.weights));
      whole = omega (arith, far.weight, sum_by-take-le (λ (s : PathShare). s.weight) xs (length xs), is.whole);
      from = far.from;
    }

pub trimmed_split : (budget : ℕ) (r : PairRoutes) → 1 ≤ budget → IsSplit r.paths → IsSplit (trimmed_pair budget r).paths
trimmed_split budget r some is =
    let kept = kept_of_split budget r.paths some is in
    let heavy = heaviest budget r.paths in
    let same = links_at-normalized heavy in
    record {
      ascending = ascending_from (with_whole_weight heavy) (λ k below.
          let inside : suc k < length heavy = omega (arith, below, length-normalized heavy) in
          from heavy k (same k (omega arith)) (same (suc k) inside) (ascending_at heavy k kept.ascending inside));
      weights = positive-normalized heavy kept.some kept.weights kept.whole;
      whole = total-normalized heavy (some_weight heavy kept.some kept.weights);
    }
  where
    from : (heavy : List PathShare) (k : ℕ) → links_at (with_whole_weight heavy) k ≡ links_at heavy k → links_at (with_whole_weight heavy) (suc k) ≡ links_at heavy (suc k) →
        list_below (links_at heavy k) (links_at heavy (suc k)) ≡ true → list_below (links_at (with_whole_weight heavy) k) (links_at (with_whole_weight heavy) (suc k)) ≡ true
    from heavy k one two is = cc

pub trimmed_few : (budget : ℕ) (r : PairRoutes) → 1 ≤ budget → IsSplit r.paths → length (trimmed_pair budget r).paths ≤ budget
trimmed_few budget r some is =
    omega (arith, (kept_of_split budget r.paths some is).few, length-normalized (heaviest budget r.paths))

-- the pairs' splits stay splits over paths of the network
pub trimmed_on : (budget : ℕ) (net : Network) (r : PairRoutes) → 1 ≤ budget → IsPathSplit net r → IsPathSplit net (trimmed_pair budget r)
trimmed_on budget net r some split =
    let is : IsSplit r.paths = record { ascending = split.distinct; weights = split.weights; whole = split.whole } in
    let kept = kept_of_split budget r.paths some is in
    let made = trimmed_split budget r some is in
    let heavy = heaviest budget r.paths in
    record {
      paths = All-from_get_or (λ s. IsTrue (is_path net r.pair.src r.pair.dst s.links)) (with_whole_weight heavy) no_path (λ k below.
          let inside : k < length heavy = omega (arith, below, length-normalized heavy) in
          let (i, within, at) = kept.from k inside in
          let links : links_at (with_whole_weight heavy) k ≡ links_at r.paths i = links_at-normalized heavy k inside ∙ ap (λ (s : PathShare). s.links) at in
          subst (λ (l : List ℕ). is_path net r.pair.src r.pair.dst l ≡ true) (sym links)
          (All-get_or (λ s. IsTrue (is_path net r.pair.src r.pair.dst s.links)) r.paths i no_path within split.paths));
      distinct = made.ascending;
      weights = made.weights;
      whole = made.whole;
    }

pub trimmed_routing : (budget : ℕ) (net : Network) (pairs : List Pair) (routes : List PairRoutes) → 1 ≤ budget → IsRoutingOf net pairs routes →
    IsRoutingOf net pairs (trimmed_routes budget routes)
trimmed_routing budget net pairs routes some is = record {
  in_order = map-map (λ (r : PairRoutes). r.pair) (trimmed_pair budget) routes ∙ is.in_order;
  splits = All-map (IsPathSplit net) (trimmed_pair budget) routes
      (All-weaker (IsPathSplit net) (λ r. IsPathSplit net (trimmed_pair budget r)) (λ r split. trimmed_on budget net r some split) routes is.splits);
}

all_splits : (routes : List PairRoutes) → are_splits routes ≡ true → All (λ r. is_split r ≡ true) routes
all_splits routes splits = all_from_tests is_split (λ r. is_split r ≡ true) (λ r e. e) routes splits

pub trimmed_splits : (budget : ℕ) (routes : List PairRoutes) → 1 ≤ budget → are_splits routes ≡ true → are_splits (trimmed_routes budget routes) ≡ true
trimmed_splits budget routes some splits = all_to_tests is_split (λ r. is_split r ≡ true) (λ r e. e) (trimmed_routes budget routes)
    (All-map (λ r. is_split r ≡ true) (trimmed_pair budget) routes
    (All-weaker (λ r. is_split r ≡ true) (λ r. is_split (trimmed_pair budget r) ≡ true)
    (λ r split. split_from (trimmed_pair budget r) (trimmed_split budget r some (split_parts r split))) routes (all_splits routes splits)))

pub trimmed_has_few : (budget : ℕ) (routes : List PairRoutes) → 1 ≤ budget → are_splits routes ≡ true → HasFewPaths budget (trimmed_routes budget routes)
trimmed_has_few budget routes some splits =
    All-map (λ r. length r.paths ≤ budget) (trimmed_pair budget) routes
    (All-weaker (λ r. is_split r ≡ true) (λ r. length (trimmed_pair budget r).paths ≤ budget)
    (λ r split. trimmed_few budget r some (split_parts r split)) routes (all_splits routes splits))
