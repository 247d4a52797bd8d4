-- There are rates with all that `protect` promises.
use Rattle.std.proofs.Common.{◌≡◌, ◌⊎◌, ℕ, ◌-◌, ◌*◌, ◌<◌, ◌≤◌, List, [], length, map, replicate, slice_index, min, arith, refl, inl, inr}
use Rattle.std.specs.List.{range_with_len}
use Rattle.std.proofs.lemmas.Bool.{cases_lt}
use Rattle.std.proofs.lemmas.List.FromFn.{get_or-map-range_with_len, length-map-range_with_len}
use Rattle.te_model.specs.declared.network.Network.{Network}
use Rattle.te_model.specs.declared.route.PairRoutes.{PairRoutes}
use Rattle.te_model.specs.Path.{routes_at}
use Rattle.te_model.proofs.Quotients.{quotient_up-least}
use Rattle.fault_rates.specs.declared.plan.RatePlan.{RatePlan}
use Rattle.fault_rates.specs.Laws.{raised_at, IsEvenProtection}
use Rattle.fault_rates.specs.Making.{AreValues, ProtectionsExist, cap_by, paths_left_of}
use Rattle.fault_rates.specs.Plan.{protection_by}
use Rattle.fault_rates.proofs.Existence.{even_protections_exist, raised_same, raised_other}
use Rattle.fault_rates.proofs.Making.{IsMadeOf, cap_none, cap_some, cap_wanted, even_on_is, even_on_raised, made_protection}

values_of : (n : ℕ) (f : ℕ → ℕ) → AreValues n f (map f (range_with_len 0 n))
values_of n f = (length-map-range_with_len f 0 n, λ k below. get_or-map-range_with_len f 0 n k k 0 below (omega arith))

abbrev no_plan : ℕ → RatePlan
no_plan failures = record { failures = failures; grant = []; allocation = [] }

-- the rates of these allocations
abbrev plan_of : Network → List PairRoutes → List ℕ → ℕ → (ℕ → ℕ) → RatePlan
plan_of net routes demand failures a = record {
  failures = failures;
  grant = map (λ p. min (slice_index demand p) (paths_left_of net routes failures p * a p)) (range_with_len 0 (length routes));
  allocation = map (λ p. replicate (length (routes_at routes p).paths) (a p)) (range_with_len 0 (length routes));
}

-- an allocation that one less would not do for is no greater than the cap
within_cap : (demand left a : ℕ) → 0 < left → (a ≡ 0) ⊎ (left * (a - 1) < demand) → a ≤ cap_by demand left
within_cap demand left a some (inl none) = omega (arith, none)
within_cap demand left a some (inr short) = elim (cases_lt (cap_by demand left) a) [
  | inr le ↦ le
  | inl over ↦ absurd (let met = cap_wanted demand left (a - 1) some (omega (arith, over)) in omega (arith, met, short))
]

-- a pair below its cap has less than its demand
below_cap : (demand left a : ℕ) → 0 < left → a < cap_by demand left → left * a < demand
below_cap demand left a some below = elim (cases_lt (left * a) demand) [
  | inl lt ↦ lt
  | inr ge ↦
      let least = quotient_up-least demand left a (omega (arith, some)) (omega (arith, ge)) in
      let is = cap_some demand left some in
      absurd (omega (arith, least, is, below))
]

made : (net : Network) (routes : List PairRoutes) (demand : List ℕ) (failures : ℕ) (a : ℕ → ℕ) → IsEvenProtection (protection_by net routes demand (no_plan failures)) a →
    IsMadeOf net routes demand failures a (plan_of net routes demand failures a)
made net routes demand failures a even = record {
  failures = refl;
  grants = values_of (length routes) (λ p. min (slice_index demand p) (paths_left_of net routes failures p * a p));
  count = length-map-range_with_len (λ p. replicate (length (routes_at routes p).paths) (a p)) 0 (length routes);
  each = λ p below. get_or-map-range_with_len (λ p. replicate (length (routes_at routes p).paths) (a p)) 0 (length routes) p p [] below (omega arith);
  within = λ p below. elim (cases_lt 0 (paths_left_of net routes failures p)) [
    | inl some ↦ within_cap (slice_index demand p) (paths_left_of net routes failures p) (a p) some (even.cap p below some)
    | inr none ↦ let e = even.none p below (omega (arith, none)) in omega (arith, e)
  ];
  fits = λ e below. let is = even_on_is net routes demand (no_plan failures) a e in omega (arith, is, even.guarded.fits e below);
  full = λ p below room. elim (cases_lt 0 (paths_left_of net routes failures p)) [
    | inl some ↦
        let found = even.most p below some (below_cap (slice_index demand p) (paths_left_of net routes failures p) (a p) some room) in
        let is = even_on_is net routes demand (no_plan failures) (raised_at a p) found.0 in
        let more = even_on_raised routes a (raised_at a p) p 1 found.0 below (let s = raised_same a p in omega (arith, s)) (λ q other. raised_other a p q other) in
        let over = found.2 in
        (found.0, found.1, omega (arith, is, more, over))
    | inr none ↦ absurd (let e = cap_none (slice_index demand p) (paths_left_of net routes failures p) (omega (arith, none)) in omega (arith, e, room))
  ];
}

pub protections_exist : ProtectionsExist
protections_exist net routes demand failures demands few =
    let even = even_protections_exist (protection_by net routes demand (no_plan failures)) in
    (plan_of net routes demand failures even.0, made_protection net routes demand failures even.0 (plan_of net routes demand failures even.0) (made net routes demand failures even.0 even.1) demands few)
