-- A routing whose pairs are shifted one after another.
use Rattle.std.proofs.Common.{inl, inr, ◌≡◌, ℕ, ◌+◌, ◌<◌, ◌≤◌, List, [], length, map, get_or, arith, sym, ◌∙◌, subst, below_more}
use Rattle.std.proofs.Math.ListN.{set}
use Rattle.std.proofs.lemmas.Bool.{cases_lt}
use Rattle.std.proofs.lemmas.List.{ext_get_or, get_or-map, get_or-set_other, get_or-set_same, length-map, length-set}
use Rattle.std.proofs.lemmas.List.Elements.{All-from_get_or, All-get_or}
use Rattle.te_model.specs.declared.network.Network.{Network}
use Rattle.te_model.specs.declared.route.PairRoutes.{PairRoutes}
use Rattle.te_model.specs.Path.{no_routes, routes_at}
use Rattle.te_model.specs.PathRouting.{IsPathRouting, IsPathSplit}
use Rattle.routing.specs.Merge.{HasLinks}
use Rattle.routing.specs.Routes.{HasFewPaths}
use Rattle.rate_sweeps.specs.Shifts.{IsShifted, UsesOnlyWays}
use Rattle.rate_sweeps.specs.Sweeps.{ArePathsOfPairs}
use Rattle.rate_sweeps.proofs.Shifted.{shifted_split, unshifted}

-- the first n pairs are as they were or shifted, the others as they were
pub record ShiftedSoFar (limit : ℕ) (old : List PairRoutes) (offered : List (List ℕ)) (n : ℕ) (now : List PairRoutes) : Type 0 where
  pub count : length now ≡ length old
  pub passed : (p : ℕ) → p < n → IsShifted limit (routes_at old p) (get_or offered p []) (routes_at now p)
  pub left : (p : ℕ) → n ≤ p → routes_at now p ≡ routes_at old p

-- a pair that is not passed yet has its split
pub left_split : (net : Network) (limit : ℕ) (old : List PairRoutes) (offered : List (List ℕ)) (n : ℕ) (now : List PairRoutes) → IsPathRouting net old →
    ShiftedSoFar limit old offered n now → n < length old → IsPathSplit net (routes_at now n)
left_split net limit old offered n now splits far below =
    subst (IsPathSplit net) (sym (far.left n (omega arith))) (All-get_or (IsPathSplit net) old n no_routes below splits)

-- one pair more, which is shifted
pub passed_shifted : (limit : ℕ) (old : List PairRoutes) (offered : List (List ℕ)) (n : ℕ) (now : List PairRoutes) (r : PairRoutes) →
    ShiftedSoFar limit old offered n now → n < length old → IsShifted limit (routes_at now n) (get_or offered n []) r →
    ShiftedSoFar limit old offered (n + 1) (set now n r)
passed_shifted limit old offered n now r far below is = record {
  count = length-set now n r ∙ far.count;
  passed = λ p under. elim (cases_lt p n) [
    | inl lt ↦
        let same : routes_at (set now n r) p ≡ routes_at now p = get_or-set_other now n p r no_routes (λ e. omega (arith, lt, e)) in
        subst (IsShifted limit (routes_at old p) (get_or offered p [])) (sym same) (far.passed p lt)
    | inr ge ↦
        let here : n ≡ p = omega (arith, under, ge) in
        let at : routes_at (set now n r) n ≡ r = get_or-set_same now n r no_routes (omega (arith, below, far.count)) in
        subst (λ k. IsShifted limit (routes_at old k) (get_or offered k []) (routes_at (set now n r) k)) here
        (subst (IsShifted limit (routes_at old n) (get_or offered n [])) (sym at)
        (subst (λ (x : PairRoutes). IsShifted limit x (get_or offered n []) r) (far.left n (omega arith)) is))
  ];
  left = λ p over. get_or-set_other now n p r no_routes (λ e. omega (arith, over, e)) ∙ far.left p (omega (arith, over));
}

-- one pair more, which stays as it is
pub passed_same : (net : Network) (limit : ℕ) (old : List PairRoutes) (offered : List (List ℕ)) (n : ℕ) (now : List PairRoutes) → IsPathRouting net old →
    ShiftedSoFar limit old offered n now → n < length old → ShiftedSoFar limit old offered (n + 1) now
passed_same net limit old offered n now splits far below = record {
  count = far.count;
  passed = λ p under. elim (cases_lt p n) [
    | inl lt ↦ far.passed p lt
    | inr ge ↦
        let here : n ≡ p = omega (arith, under, ge) in
        let split = All-get_or (IsPathSplit net) old n no_routes below splits in
        subst (λ k. IsShifted limit (routes_at old k) (get_or offered k []) (routes_at now k)) here
        (subst (IsShifted limit (routes_at old n) (get_or offered n [])) (sym (far.left n (omega arith)))
        (unshifted limit (routes_at old n) (get_or offered n []) split.distinct split.weights))
  ];
  left = λ p over. far.left p (omega (arith, over));
}

-- what holds of each pair that is passed holds of one more, which is written
pub each_set : (P : ℕ → PairRoutes → Type 0) (n : ℕ) (now : List PairRoutes) (r : PairRoutes) → n < length now → ((p : ℕ) → p < n → P p (routes_at now p)) → P n r →
    (p : ℕ) → p < n + 1 → P p (routes_at (set now n r) p)
each_set P n now r inside old new =
    below_more (λ p. P p (routes_at (set now n r) p)) n
    (λ p below. subst (P p) (sym (get_or-set_other now n p r no_routes (λ e. omega (arith, below, e)))) (old p below))
    (subst (P n) (sym (get_or-set_same now n r no_routes inside)) new)

-- the pairs stay in order
pub passed_pairs : (limit : ℕ) (old : List PairRoutes) (offered : List (List ℕ)) (n : ℕ) (now : List PairRoutes) → ShiftedSoFar limit old offered n now →
    length old ≤ n → map (λ r. r.pair) now ≡ map (λ r. r.pair) old
passed_pairs limit old offered n now far all =
    let pair_of = λ (r : PairRoutes). r.pair in
    ext_get_or no_routes.pair (map pair_of now) (map pair_of old) (length-map now pair_of ∙ (far.count ∙ sym (length-map old pair_of))) (λ p below.
    let inside : p < length now = omega (arith, below, length-map now pair_of) in
    get_or-map pair_of now p no_routes no_routes.pair inside
    ∙ ((far.passed p (omega (arith, inside, far.count, all))).pair ∙ sym (get_or-map pair_of old p no_routes no_routes.pair (omega (arith, inside, far.count)))))

-- and keep splits over paths of the network
pub passed_splits : (net : Network) (limit : ℕ) (old : List PairRoutes) (offered : List (List ℕ)) (n : ℕ) (now : List PairRoutes) → IsPathRouting net old →
    ArePathsOfPairs net old offered → ShiftedSoFar limit old offered n now → length old ≤ n → IsPathRouting net now
passed_splits net limit old offered n now splits ways far all = All-from_get_or (IsPathSplit net) now no_routes (λ p inside.
    let below : p < length old = omega (arith, inside, far.count) in
    shifted_split net limit (routes_at old p) (routes_at now p) (get_or offered p []) (All-get_or (IsPathSplit net) old p no_routes below splits) (ways.each p below)
    (far.passed p (omega (arith, below, all))))

-- no other paths come than those that are offered
pub passed_only : (limit : ℕ) (old : List PairRoutes) (offered : List (List ℕ)) (n : ℕ) (now : List PairRoutes) → ShiftedSoFar limit old offered n now →
    n ≤ length old → UsesOnlyWays old offered now
passed_only limit old offered n now far few p links has = elim (cases_lt p n) [
  | inl lt ↦ elim ((far.passed p lt).only links has) [
    | inl own ↦ inl own
    | inr new ↦ inr (omega (arith, lt, few), sym new)
  ]
  | inr ge ↦ inl (subst (λ (r : PairRoutes). HasLinks r.paths links) (far.left p ge) has)
]

-- no pair gets more paths than it may have
pub passed_few : (limit : ℕ) (old : List PairRoutes) (offered : List (List ℕ)) (n : ℕ) (now : List PairRoutes) → ShiftedSoFar limit old offered n now →
    length old ≤ n → HasFewPaths limit old → HasFewPaths limit now
passed_few limit old offered n now far all few = All-from_get_or (λ r. length r.paths ≤ limit) now no_routes (λ p inside.
    let below : p < length old = omega (arith, inside, far.count) in
    (far.passed p (omega (arith, below, all))).few (All-get_or (λ (r : PairRoutes). length r.paths ≤ limit) old p no_routes below few))
