-- What the paths have put on the links, path by path and pair by pair.
use Rattle.std.proofs.Common.{◌≡◌, ℕ, suc, ◌+◌, ◌*◌, ◌<◌, ◌≤◌, ◌^◌, Bool, true, false, List, length, take, get_or, arith, refl, ap, All}
use Rattle.std.specs.Prelude.{if◌then◌else◌, slice_index}
use Rattle.std.proofs.lemmas.List.Elements.{All-from_get_or}
use Rattle.std.proofs.lemmas.List.Sums.{sum_by_more, sum_by_more_le}
use Rattle.std.proofs.lemmas.Nat.{mul-le}
use Rattle.te_model.specs.declared.route.PathShare.{PathShare}
use Rattle.te_model.specs.declared.route.PairRoutes.{PairRoutes}
use Rattle.te_model.specs.declared.units.TheConstants.{SHARE_UNIT}
use Rattle.te_model.specs.Flow.{load}
use Rattle.te_model.specs.Path.{has_number, routes_at, share, weight_on, amount_on}
use Rattle.te_model.proofs.Sums.{mul-pick}
use Rattle.routing.specs.Merge.{no_path}
use Rattle.routing.specs.Split.{are_splits, total_weight}
use Rattle.routing.proofs.Splits.{share-le, weight_on-le}

-- where only links of the path are marked, and each mark of these is gone, none is left
pub none_marked : (marks : List Bool) → ((e : ℕ) → e < length marks → get_or marks e false ≡ true → ⊥) → All (λ m. m ≡ false) marks
none_marked marks none = All-from_get_or (λ m. m ≡ false) marks false (λ e below. go e below (get_or marks e false) refl)
  where
    go : (e : ℕ) → e < length marks → (b : Bool) → get_or marks e false ≡ b → get_or marks e false ≡ false
    go e below true is = absurd (none e below is)
    go e below false is = is

-- one path more of the pair
pub path_more : (paths : List PathShare) (demand e i : ℕ) → i < length paths →
    demand * weight_on (take (i + 1) paths) e
    ≡ demand * weight_on (take i paths) e + amount_on (get_or paths i no_path).links (demand * (get_or paths i no_path).weight) e
path_more paths demand e i below =
    let s = get_or paths i no_path in
    let more = sum_by_more (λ (s : PathShare). if has_number s.links e then s.weight else 0) paths i no_path below in
    omega (arith, ap (λ x. demand * x) more, mul-pick (has_number s.links e) demand s.weight)

-- what a pair has put on a link, with its next path, is within a million times its demand
pub path_fits : (paths : List PathShare) (demand e i : ℕ) → i < length paths → demand ≤ 2 ^ 32 → total_weight paths ≤ SHARE_UNIT →
    demand * weight_on (take i paths) e + demand * (get_or paths i no_path).weight ≤ 4294967296 * 1000000
path_fits paths demand e i below small whole =
    let within = weight_on-le (take i paths) e in
    let more = sum_by_more_le (λ (s : PathShare). s.weight) paths i no_path below in
    let all : weight_on (take i paths) e + (get_or paths i no_path).weight ≤ 1000000 = omega (arith, within, more, whole) in
    omega (arith, mul-le demand (weight_on (take i paths) e + (get_or paths i no_path).weight) 4294967296 1000000 small all)

-- one pair more
pub pair_more : (routes : List PairRoutes) (demand : List ℕ) (e p : ℕ) →
    load (p + 1) (slice_index demand) (share routes) e ≡ load p (slice_index demand) (share routes) e + slice_index demand p * weight_on (routes_at routes p).paths e
pair_more routes demand e p =
    let next : p + 1 ≡ suc p = omega arith in
    ap (λ n. load n (slice_index demand) (share routes) e) next

pub pair_fits : (routes : List PairRoutes) (demand e p : ℕ) → are_splits routes ≡ true → p < length routes → demand ≤ 2 ^ 32 →
    demand * weight_on (routes_at routes p).paths e ≤ 4294967296 * 1000000
pair_fits routes demand e p splits below small = mul-le demand (share routes p e) 4294967296 1000000 small (omega (arith, share-le routes p e splits below))
