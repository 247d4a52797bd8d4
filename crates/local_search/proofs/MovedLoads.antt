-- What a move makes of the loads.
use Rattle.std.proofs.Common.{inl, inr, ◌≡◌, ℕ, zero, suc, ◌+◌, ◌*◌, ◌^◌, ◌<◌, ◌≤◌, true, List, length, slice_index, arith, ap, sym, ◌∙◌, All, min, if◌then◌else◌}
use Rattle.std.proofs.lemmas.Bool.{cases_eq}
use Rattle.std.proofs.lemmas.Nat.{mul-le}
use Rattle.std.proofs.lemmas.List.{length-map}
use Rattle.std.proofs.lemmas.List.Elements.{All-get_or, All-from_get_or}
use Rattle.te_model.specs.declared.network.Network.{Network}
use Rattle.te_model.specs.declared.route.PathShare.{PathShare}
use Rattle.te_model.specs.declared.route.PairRoutes.{PairRoutes}
use Rattle.te_model.specs.Counting.{sum_below}
use Rattle.te_model.specs.Path.{has_number, routes_at, share, weight_on}
use Rattle.te_model.proofs.Sums.{mul-pick, sum_below-bound, sum_below-same}
use Rattle.routing.specs.Merge.{links_at, path_at}
use Rattle.routing.specs.Routes.{AreDemands, AreLoads, load_on}
use Rattle.routing.specs.Split.{are_splits}
use Rattle.routing.proofs.Splits.{share-le}
use Rattle.local_search.specs.Loads.{load_after}
use Rattle.local_search.specs.Moves.{IsMoved, IsShift}

-- a sum of which one term changes
sum_below-change : (n p : ℕ) (f g : ℕ → ℕ) (a b : ℕ) → p < n → ((q : ℕ) → q < n → (q ≡ p → ⊥) → f q ≡ g q) → f p + a ≡ g p + b →
    sum_below n f + a ≡ sum_below n g + b
sum_below-change zero p f g a b below others here = absurd (omega arith)
sum_below-change (suc n) p f g a b below others here = elim (cases_eq p n) [
  | inl e ↦
      let same = sum_below-same n f g (λ q lt. others q (omega arith) (λ is. omega (arith, is, e, lt))) in
      omega (arith, same, here, ap f e, ap g e)
  | inr apart ↦
      let rest = sum_below-change n p f g a b (omega (arith, below, apart)) (λ q lt not. others q (omega arith) not) here in
      let last = others n (omega arith) (λ is. apart (sym is)) in
      omega (arith, rest, last)
]

-- the shares on a link, times the demand
shares_change : (old new : List PathShare) (from to : List ℕ) (units demand e : ℕ) → IsShift old from to units new →
    demand * weight_on new e + (if has_number from e then demand * units else 0) ≡ demand * weight_on old e + (if has_number to e then demand * units else 0)
shares_change old new from to units demand e shift =
    let one = ap (λ x. demand * x) (shift.weights (λ l. has_number l e)) in
    omega (arith, one, mul-pick (has_number from e) demand units, mul-pick (has_number to e) demand units)

-- the load of a link after a move
pub moved_load : (routes moved : List PairRoutes) (demand : List ℕ) (p k : ℕ) (to : List ℕ) (size e : ℕ) → p < length routes →
    IsMoved routes p k to size moved →
    load_on moved demand e
    ≡ load_after (load_on routes demand e) (links_at (routes_at routes p).paths k) to (slice_index demand p * min size (path_at (routes_at routes p).paths k).weight) e
moved_load routes moved demand p k to size e below is =
    let count : length moved ≡ length routes =
    sym (length-map moved (λ (r : PairRoutes). r.pair)) ∙ (ap length is.pairs ∙ length-map routes (λ (r : PairRoutes). r.pair))
    in
    let from = links_at (routes_at routes p).paths k in
    let units = min size (path_at (routes_at routes p).paths k).weight in
    let change = sum_below-change (length routes) p (λ q. slice_index demand q * share moved q e) (λ q. slice_index demand q * share routes q e)
    (if has_number from e then slice_index demand p * units else 0) (if has_number to e then slice_index demand p * units else 0) below
    (λ q lt apart. ap (λ (r : PairRoutes). slice_index demand q * weight_on r.paths e) (is.others q apart))
    (shares_change (routes_at routes p).paths (routes_at moved p).paths from to units (slice_index demand p) e is.shifted)
    in
    let whole : load_on moved demand e ≡ sum_below (length routes) (λ q. slice_index demand q * share moved q e) =
    ap (λ n. sum_below n (λ q. slice_index demand q * share moved q e)) count
    in
    omega (arith, whole, change)

-- a load is below 2^84
pub load_small : (routes : List PairRoutes) (demand : List ℕ) (e : ℕ) → are_splits routes ≡ true → length routes < 2 ^ 32 → AreDemands (length routes) demand →
    load_on routes demand e < 2 ^ 84
load_small routes demand e splits few demands =
    let bound = sum_below-bound (length routes) (4294967296 * 1000000) (λ p. slice_index demand p * share routes p e) (λ p below.
    mul-le (slice_index demand p) (share routes p e) 4294967296 1000000
    (All-get_or (λ d. d ≤ 2 ^ 32) demand p 0 (omega (arith, below, demands.count)) demands.small) (share-le routes p e splits below))
    in
    omega (arith, bound, few)

pub loads_small : (net : Network) (demand : List ℕ) (routes : List PairRoutes) (loads : List ℕ) → are_splits routes ≡ true → length routes < 2 ^ 32 →
    AreDemands (length routes) demand → AreLoads net demand routes loads → All (λ x. x < 2 ^ 84) loads
loads_small net demand routes loads splits few demands are = All-from_get_or (λ x. x < 2 ^ 84) loads 0 (λ e below.
    omega (arith, are.each e (omega (arith, below, are.count)), load_small routes demand e splits few demands))
