-- Allocations that fit, none above its cap, and none that could be raised below it, are all that `protect` promises.
use Rattle.std.proofs.Common.{◌≡◌, ◌∙◌, ◌⊎◌, ℕ, zero, suc, ◌+◌, ◌-◌, ◌*◌, ◌/◌, ◌<◌, ◌≤◌, ◌^◌, Bool, true, false, List, [], Option, None, length, replicate, slice_index, min, nat_le, arith, refl, ap, sym, subst, inl, inr}
use Rattle.std.specs.Prelude.{if◌then◌else◌, slice_index_or}
use Rattle.std.specs.List.{list_all}
use Rattle.std.proofs.lemmas.Bool.{and_from, cases_lt, le-leb}
use Rattle.std.proofs.lemmas.Bool.Decides.{nat_tests}
use Rattle.std.proofs.lemmas.Nat.{mul-le}
use Rattle.std.proofs.lemmas.List.{get_or-replicate, length-replicate}
use Rattle.std.proofs.lemmas.List.Elements.{All-get_or}
use Rattle.te_model.specs.declared.certificate.RuleFault.{RuleFault}
use Rattle.te_model.specs.declared.network.Network.{Network}
use Rattle.te_model.specs.declared.route.PairRoutes.{PairRoutes}
use Rattle.te_model.specs.Counting.{sum_below, count_below, or_else}
use Rattle.te_model.specs.Division.{quotient_up}
use Rattle.te_model.specs.Network.{capacity_of, link_count}
use Rattle.te_model.specs.Pairs.{AreDemands}
use Rattle.te_model.specs.Path.{has_number, routes_at}
use Rattle.te_model.specs.Validity.{rule_fault}
use Rattle.te_model.proofs.Quotients.{quotient_up-enough, quotient_up-least}
use Rattle.te_model.proofs.Counts.{count_below-bound}
use Rattle.te_model.proofs.Sums.{sum_below-bound, sum_below-same, sum_below-mul, sum_below-zero}
use Rattle.fault_rates.specs.declared.plan.RatePlan.{RatePlan}
use Rattle.fault_rates.specs.Laws.{raised_at}
use Rattle.fault_rates.specs.Making.{AreFull, AreValues, EvenFits, IsByEven, IsProtection, cap_by, even_on, paths_left_of}
use Rattle.fault_rates.specs.Plan.{IsShapedPlan, allocations_at, has_small_rates, is_rate, links_of, plan_fault, protection_by}
use Rattle.fault_rates.specs.Protection.{AreGuarded, paths_left, sum_on_link}
use Rattle.fault_rates.specs.Tables.{CanAdd, paths_on}
use Rattle.fault_rates.proofs.Existence.{KeepsEven, guarded_by, raised_same, raised_other}
use Rattle.te_model.proofs.Searches.{rule_fault_none}
use Rattle.fault_rates.proofs.Survival.{even_guard}

-- ---- one allocation for all paths of each pair, on the links

one_each : (b : Bool) (a : ℕ) → (if b then a else 0) ≡ a * (if b then 1 else 0)
one_each true a = omega arith
one_each false a = omega arith

-- one amount on each of the paths that hold the link
by_count : (n : ℕ) (test : ℕ → Bool) (a : ℕ) → sum_below n (λ i. if test i then a else 0) ≡ a * count_below n test
by_count n test a =
    sum_below-same n (λ i. if test i then a else 0) (λ i. a * (if test i then 1 else 0)) (λ i below. one_each (test i) a)
    ∙ sum_below-mul n a (λ i. if test i then 1 else 0)

pub even_on_is : (net : Network) (routes : List PairRoutes) (demand : List ℕ) (plan : RatePlan) (a : ℕ → ℕ) (e : ℕ) →
    sum_on_link (protection_by net routes demand plan) (λ p i. a p) e ≡ even_on routes a e
even_on_is net routes demand plan a e =
    sum_below-same (length routes)
    (λ p. sum_below (length (routes_at routes p).paths) (λ i. if has_number (links_of (routes_at routes p).paths i) e then a p else 0))
    (λ p. a p * paths_on (routes_at routes p).paths e)
    (λ p below. by_count (length (routes_at routes p).paths) (λ i. has_number (links_of (routes_at routes p).paths i) e) (a p))

-- one place of a sum has more
raised_sum : (n p d : ℕ) (f g : ℕ → ℕ) → p < n → g p ≡ f p + d → ((k : ℕ) → (k ≡ p → ⊥) → g k ≡ f k) → sum_below n g ≡ sum_below n f + d
raised_sum zero p d f g below at others = absurd (omega (arith, below))
raised_sum (suc n) p d f g below at others =
    elim (cases_lt p n) [
      | inl lt ↦
          let rest = raised_sum n p d f g lt at others in
          let last = others n (λ e. omega (arith, lt, e)) in
          omega (arith, rest, last)
      | inr ge ↦
          let e : n ≡ p = omega (arith, below, ge) in
          let front = sum_below-same n g f (λ k k_in. others k (λ same. omega (arith, k_in, same, ge))) in
          let last : g n ≡ f n + d = subst (λ k. g k ≡ f k + d) (sym e) at in
          omega (arith, front, last)
    ]

added : (a d c b : ℕ) → b ≡ a + d → b * c ≡ a * c + d * c
added a d c b e = rw e (omega arith)

-- more on each of the paths of one pair
pub even_on_raised : (routes : List PairRoutes) (a b : ℕ → ℕ) (p d e : ℕ) → p < length routes → b p ≡ a p + d → ((q : ℕ) → (q ≡ p → ⊥) → b q ≡ a q) →
    even_on routes b e ≡ even_on routes a e + d * paths_on (routes_at routes p).paths e
even_on_raised routes a b p d e below more others =
    raised_sum (length routes) p (d * paths_on (routes_at routes p).paths e)
    (λ q. a q * paths_on (routes_at routes q).paths e) (λ q. b q * paths_on (routes_at routes q).paths e) below
    (added (a p) d (paths_on (routes_at routes p).paths e) (b p) more)
    (λ q other. ap (λ k. k * paths_on (routes_at routes q).paths e) (others q other))

-- small allocations sum to little on a link
pub even_small : (net : Network) (routes : List PairRoutes) (a : ℕ → ℕ) → CanAdd net routes → ((p : ℕ) → p < length routes → a p ≤ 2 ^ 32) → (n e : ℕ) → n ≤ length routes →
    sum_below n (λ p. a p * paths_on (routes_at routes p).paths e) ≤ n * 137438953472
even_small net routes a can small n e within =
    sum_below-bound n 137438953472 (λ p. a p * paths_on (routes_at routes p).paths e)
    (λ p below.
    let p_in : p < length routes = omega (arith, below, within) in
    let held = count_below-bound (length (routes_at routes p).paths) (λ i. has_number (links_of (routes_at routes p).paths i) e) in
    let few = can.few p p_in in
    let most = mul-le (a p) (paths_on (routes_at routes p).paths e) (2 ^ 32) 32 (small p p_in) (omega (arith, held, few)) in
    omega (arith, most))

-- no part of a cap is on any link
pub nothing_on : (net : Network) (routes : List PairRoutes) (caps : List ℕ) → EvenFits net routes (λ p. slice_index caps p * 0 / 1000000)
nothing_on net routes caps e below =
    let none = sum_below-zero (length routes) (λ p. slice_index caps p * 0 / 1000000 * paths_on (routes_at routes p).paths e) (λ p p_in. nothing (slice_index caps p) (paths_on (routes_at routes p).paths e)) in
    omega (arith, none)
  where
    nothing : (cap count : ℕ) → cap * 0 / 1000000 * count ≡ 0
    nothing cap count = let none : cap * 0 / 1000000 ≡ 0 = omega arith in rw none (omega arith)

-- ---- what a pair asks for

pub cap_none : (demand left : ℕ) → left ≡ 0 → cap_by demand left ≡ 0
cap_none demand left none = rw none refl

pub cap_some : (demand left : ℕ) → 0 < left → cap_by demand left ≡ quotient_up demand left
cap_some demand left some = grind (arith, nat_tests)

pub cap_small : (demand left : ℕ) → cap_by demand left ≤ demand
cap_small demand left = elim (cases_lt 0 left) [
  | inr none ↦ let e = cap_none demand left (omega (arith, none)) in omega (arith, e)
  | inl some ↦
      let e = cap_some demand left some in
      let enough = mul-le demand 1 demand left (omega arith) (omega (arith, some)) in
      omega (arith, e, quotient_up-least demand left demand (omega (arith, some)) (omega (arith, enough)))
]

-- below its cap a pair has less than its demand
pub cap_wanted : (demand left a : ℕ) → 0 < left → cap_by demand left ≤ a → demand ≤ left * a
cap_wanted demand left a some full =
    let e = cap_some demand left some in
    let enough = quotient_up-enough demand left (omega (arith, some)) in
    let more = mul-le (quotient_up demand left) left a left (omega (arith, e, full)) (omega arith) in
    omega (arith, enough, more)

-- and with one less than its cap it has less too
pub cap_needed : (demand left a : ℕ) → 0 < left → a ≤ cap_by demand left → (a ≡ 0) ⊎ (left * (a - 1) < demand)
cap_needed demand left zero some within = inl refl
cap_needed demand left (suc n) some within = inr (elim (cases_lt (left * n) demand) [
  | inl lt ↦ lt_one_less lt
  | inr ge ↦
      let least = quotient_up-least demand left n (omega (arith, some)) (omega (arith, ge)) in
      let e = cap_some demand left some in
      absurd (omega (arith, least, e, within))
])
  where
    lt_one_less : left * n < demand → left * (suc n - 1) < demand
    lt_one_less lt = let e : suc n - 1 ≡ n = omega arith in rw e lt

-- ---- all that is promised

-- what is made: the allocations, and the rates that they grant
pub record IsMadeOf (net : Network) (routes : List PairRoutes) (demand : List ℕ) (many : ℕ) (a : ℕ → ℕ) (plan : RatePlan) : Type 0 where
  pub failures : plan.failures ≡ many
  pub grants : AreValues (length routes) (λ p. min (slice_index demand p) (paths_left_of net routes many p * a p)) plan.grant
  pub count : length plan.allocation ≡ length routes
  pub each : (p : ℕ) → p < length routes → slice_index_or plan.allocation p [] ≡ replicate (length (routes_at routes p).paths) (a p)
  pub within : (p : ℕ) → p < length routes → a p ≤ cap_by (slice_index demand p) (paths_left_of net routes many p)
  pub fits : EvenFits net routes a
  pub full : AreFull net routes (λ p. cap_by (slice_index demand p) (paths_left_of net routes many p)) a (length routes)

same_left : (net : Network) (routes : List PairRoutes) (demand : List ℕ) (plan : RatePlan) (failures p : ℕ) → plan.failures ≡ failures →
    paths_left (protection_by net routes demand plan) p ≡ paths_left_of net routes failures p
same_left net routes demand plan failures p same = ap (λ k. paths_left_of net routes k p) same

made_even : (net : Network) (routes : List PairRoutes) (demand : List ℕ) (failures : ℕ) (a : ℕ → ℕ) (plan : RatePlan) → IsMadeOf net routes demand failures a plan →
    IsByEven (protection_by net routes demand plan) a
made_even net routes demand failures a plan made =
    let x = protection_by net routes demand plan in
    record {
      allocations = λ p i p_in i_in. ap (λ (l : List ℕ). slice_index l i) (made.each p p_in) ∙ get_or-replicate (length (routes_at routes p).paths) i (a p) 0 i_in;
      grants = λ p p_in. made.grants.1 p p_in ∙ ap (λ k. min (slice_index demand p) (k * a p)) (sym (same_left net routes demand plan failures p made.failures));
    }

made_keeps : (net : Network) (routes : List PairRoutes) (demand : List ℕ) (failures : ℕ) (a : ℕ → ℕ) (plan : RatePlan) → IsMadeOf net routes demand failures a plan →
    KeepsEven (protection_by net routes demand plan) a
made_keeps net routes demand failures a plan made =
    let x = protection_by net routes demand plan in
    record {
      fits = λ e e_in. let is = even_on_is net routes demand plan a e in omega (arith, is, made.fits e e_in);
      none = λ p p_in left.
          let same = same_left net routes demand plan failures p made.failures in
          let cap = cap_none (slice_index demand p) (paths_left_of net routes failures p) (omega (arith, same, left)) in
          omega (arith, cap, made.within p p_in);
      cap = λ p p_in left.
          let same = same_left net routes demand plan failures p made.failures in
          subst (λ k. (a p ≡ 0) ⊎ (k * (a p - 1) < slice_index demand p)) (sym same)
          (cap_needed (slice_index demand p) (paths_left_of net routes failures p) (a p) (omega (arith, same, left)) (made.within p p_in));
    }

made_most : (net : Network) (routes : List PairRoutes) (demand : List ℕ) (failures : ℕ) (a : ℕ → ℕ) (plan : RatePlan) → IsMadeOf net routes demand failures a plan →
    (p : ℕ) → p < length routes → 0 < paths_left (protection_by net routes demand plan) p → paths_left (protection_by net routes demand plan) p * a p < slice_index demand p →
    (e : ℕ) × (e < link_count net) × (capacity_of net e < sum_on_link (protection_by net routes demand plan) (λ q i. raised_at a p q) e)
made_most net routes demand failures a plan made p p_in left below =
    let x = protection_by net routes demand plan in
    let same = same_left net routes demand plan failures p made.failures in
    let short : paths_left_of net routes failures p * a p < slice_index demand p = subst (λ k. k * a p < slice_index demand p) same below in
    let room : a p < cap_by (slice_index demand p) (paths_left_of net routes failures p) =
    elim (cases_lt (a p) (cap_by (slice_index demand p) (paths_left_of net routes failures p))) [
      | inl lt ↦ lt
      | inr ge ↦ absurd (let met = cap_wanted (slice_index demand p) (paths_left_of net routes failures p) (a p) (omega (arith, same, left)) ge in omega (arith, met, short))
    ]
    in
    let full = made.full p p_in room in
    let is = even_on_is net routes demand plan (raised_at a p) full.0 in
    let more = even_on_raised routes a (raised_at a p) p 1 full.0 p_in (let s = raised_same a p in omega (arith, s)) (λ q other. raised_other a p q other) in
    let over = full.2 in
    (full.0, full.1, omega (arith, is, more, over))

made_guarded : (net : Network) (routes : List PairRoutes) (demand : List ℕ) (failures : ℕ) (a : ℕ → ℕ) (plan : RatePlan) → IsMadeOf net routes demand failures a plan →
    AreGuarded (protection_by net routes demand plan)
made_guarded net routes demand failures a plan made =
    let x = protection_by net routes demand plan in
    let even = made_even net routes demand failures a plan made in
    record {
      fits = λ e e_in.
          let same = sum_below-same (length routes)
          (λ p. sum_below (length (routes_at routes p).paths) (λ i. if has_number (links_of (routes_at routes p).paths i) e then x.allocation p i else 0))
          (λ p. sum_below (length (routes_at routes p).paths) (λ i. if has_number (links_of (routes_at routes p).paths i) e then a p else 0))
          (λ p p_in. sum_below-same (length (routes_at routes p).paths) (λ i. if has_number (links_of (routes_at routes p).paths i) e then x.allocation p i else 0)
          (λ i. if has_number (links_of (routes_at routes p).paths i) e then a p else 0)
          (λ i i_in. ap (λ k. if has_number (links_of (routes_at routes p).paths i) e then k else 0) (even.allocations p i p_in i_in))) in
          let is = even_on_is net routes demand plan a e in
          omega (arith, same, is, made.fits e e_in);
      guarded = λ p p_in. let guards = even_guard x p (a p) (λ i i_in. even.allocations p i p_in i_in) in let g = even.grants p p_in in omega (arith, guards, g);
      wanted = λ p p_in. let g = even.grants p p_in in omega (arith, g);
    }

-- ---- numbers within the limits

all_rates : (n a : ℕ) → a ≤ 2 ^ 32 → list_all is_rate (replicate n a) ≡ true
all_rates zero a small = refl
all_rates (suc n) a small = and_from (is_rate a) (list_all is_rate (replicate n a)) (le-leb a (2 ^ 32) small) (all_rates n a small)

made_shaped : (net : Network) (routes : List PairRoutes) (demand : List ℕ) (failures : ℕ) (a : ℕ → ℕ) (plan : RatePlan) → IsMadeOf net routes demand failures a plan →
    IsShapedPlan routes plan
made_shaped net routes demand failures a plan made = record {
  grants = made.grants.0;
  pairs = made.count;
  paths = λ p p_in. ap (λ (l : List ℕ). length l) (made.each p p_in) ∙ length-replicate {A = ℕ} (length (routes_at routes p).paths) (a p);
}

made_small : (net : Network) (routes : List PairRoutes) (demand : List ℕ) (failures : ℕ) (a : ℕ → ℕ) (plan : RatePlan) → IsMadeOf net routes demand failures a plan →
    AreDemands (length routes) demand → (p : ℕ) → p < length plan.grant → has_small_rates plan p ≡ true
made_small net routes demand failures a plan made demands p below =
    let count = made.grants.0 in
    let p_in : p < length routes = omega (arith, below, count) in
    let few : slice_index demand p ≤ 2 ^ 32 = All-get_or (λ d. d ≤ 2 ^ 32) demand p 0 (omega (arith, p_in, demands.count)) demands.small in
    let within = made.within p p_in in
    let capped = cap_small (slice_index demand p) (paths_left_of net routes failures p) in
    let granted = made.grants.1 p p_in in
    and_from (is_rate (slice_index plan.grant p)) (list_all is_rate (allocations_at plan p))
    (le-leb (slice_index plan.grant p) (2 ^ 32) (omega (arith, few, granted)))
    (ap (list_all is_rate) (made.each p p_in) ∙ all_rates (length (routes_at routes p).paths) (a p) (omega (arith, few, within, capped)))

made_valid : (net : Network) (routes : List PairRoutes) (demand : List ℕ) (failures : ℕ) (a : ℕ → ℕ) (plan : RatePlan) → IsMadeOf net routes demand failures a plan →
    AreDemands (length routes) demand → failures ≤ 8 → plan_fault plan ≡ None
made_valid net routes demand failures a plan made demands few =
    let same = made.failures in
    let one = rule_fault_none 1 1 (λ k. nat_le plan.failures 8) (λ k below. le-leb plan.failures 8 (omega (arith, same, few))) in
    let two = rule_fault_none 2 (length plan.grant) (has_small_rates plan) (made_small net routes demand failures a plan made demands) in
    ap (λ (r : Option RuleFault). or_else r (or_else (rule_fault 2 (length plan.grant) (has_small_rates plan)) None)) one
    ∙ ap (λ (r : Option RuleFault). or_else r None) two

pub made_protection : (net : Network) (routes : List PairRoutes) (demand : List ℕ) (failures : ℕ) (a : ℕ → ℕ) (plan : RatePlan) → IsMadeOf net routes demand failures a plan →
    AreDemands (length routes) demand → failures ≤ 8 → IsProtection net routes demand failures plan
made_protection net routes demand failures a plan made demands few =
    let x = protection_by net routes demand plan in
    let keeps = made_keeps net routes demand failures a plan made in
    record {
      failures = made.failures;
      valid = record { shaped = made_shaped net routes demand failures a plan made; no_fault = made_valid net routes demand failures a plan made demands few };
      guarded = made_guarded net routes demand failures a plan made;
      even = (
        a,
        made_even net routes demand failures a plan made,
        record { guarded = guarded_by x a keeps; none = keeps.none; cap = keeps.cap; most = made_most net routes demand failures a plan made },
      );
    }

-- what is made of these parts
pub made_of_parts : (net : Network) (routes : List PairRoutes) (demand : List ℕ) (failures : ℕ) (left caps even : List ℕ) (plan : RatePlan) →
    AreValues (length routes) (paths_left_of net routes failures) left →
    AreValues (length left) (λ p. cap_by (slice_index demand p) (slice_index left p)) caps →
    ((p : ℕ) → p < length routes → slice_index even p ≤ slice_index caps p) → EvenFits net routes (slice_index even) →
    AreFull net routes (slice_index caps) (slice_index even) (length routes) →
    plan.failures ≡ failures → AreValues (length left) (λ p. min (slice_index demand p) (slice_index left p * slice_index even p)) plan.grant →
    length plan.allocation ≡ length routes →
    ((p : ℕ) → p < length routes → slice_index_or plan.allocation p [] ≡ replicate (length (routes_at routes p).paths) (slice_index even p)) →
    IsMadeOf net routes demand failures (slice_index even) plan
made_of_parts net routes demand failures left caps even plan are_left are_caps within fits full same grants count each =
    let cap = λ (p : ℕ) (below : p < length routes).
    are_caps.1 p (let n = are_left.0 in omega (arith, below, n)) ∙ ap (λ k. cap_by (slice_index demand p) k) (are_left.1 p below) in
    record {
      failures = same;
      grants = (
        grants.0 ∙ are_left.0,
        λ p below. grants.1 p (let n = are_left.0 in omega (arith, below, n)) ∙ ap (λ k. min (slice_index demand p) (k * slice_index even p)) (are_left.1 p below),
      );
      count = count;
      each = each;
      within = λ p below. let c = cap p below in omega (arith, c, within p below);
      fits = fits;
      full = λ p below room. full p below (let c = cap p below in omega (arith, c, room));
    }

-- caps are within the demands, hence small
pub caps_small : (net : Network) (routes : List PairRoutes) (demand : List ℕ) (failures : ℕ) (left caps : List ℕ) → AreDemands (length routes) demand →
    AreValues (length routes) (paths_left_of net routes failures) left →
    AreValues (length left) (λ p. cap_by (slice_index demand p) (slice_index left p)) caps → (p : ℕ) → p < length routes → slice_index caps p ≤ 2 ^ 32
caps_small net routes demand failures left caps demands are_left are_caps p below =
    let few : slice_index demand p ≤ 2 ^ 32 = All-get_or (λ d. d ≤ 2 ^ 32) demand p 0 (omega (arith, below, demands.count)) demands.small in
    let is = are_caps.1 p (let n = are_left.0 in omega (arith, below, n)) in
    omega (arith, is, few, cap_small (slice_index demand p) (slice_index left p))
