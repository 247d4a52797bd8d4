-- The verdict that is found is that of the rules.
use Rattle.std.proofs.Common.{◌≡◌, ◌↔◌, ◌∙◌, ℕ, ◌<◌, Bool, List, [], ◌∷◌, Option, Some, None, Result, Ok, Err, length, nat_le, slice_index, refl, ap, sym}
use Rattle.std.specs.Prelude.{if◌then◌else◌, IfOk}
use Rattle.std.specs.Option.{option_or}
use Rattle.te_model.specs.declared.certificate.RuleFault.{RuleFault}
use Rattle.te_model.specs.declared.memory.Memory.{Memory}
use Rattle.te_model.specs.declared.network.Network.{Network}
use Rattle.te_model.specs.declared.route.PairRoutes.{PairRoutes}
use Rattle.te_model.specs.Counting.{first_some, sum_below, unless}
use Rattle.te_model.specs.Network.{capacity_of, link_count}
use Rattle.te_model.specs.Validity.{fault_at, rule_fault}
use Rattle.te_model.proofs.Searches.{first_below-same}
use Rattle.number_tables.specs.Rules.{IsFirstRuleOf}
use Rattle.number_tables.proofs.FirstRules.{first_rule_of-some, no_fault_gives}
use Rattle.fault_rates.specs.declared.plan.RatePlan.{RatePlan}
use Rattle.fault_rates.specs.declared.verdict.RateVerdict.{RateVerdict}
use Rattle.fault_rates.specs.declared.verdict.RateVerdict.TheVariants.{Yes, No}
use Rattle.fault_rates.specs.Plan.{IsShapedPlan, allocations_at, protection_by}
use Rattle.fault_rates.specs.Protection.{Protection, AreGuarded, SurvivesFailures, guard, is_among_least, paths_left, sum_on_link}
use Rattle.fault_rates.specs.Tables.{allocated_on, guard_by}
use Rattle.fault_rates.specs.Verdict.{guard_fault, guard_rules, verdict_of}
use Rattle.fault_rates.proofs.Faultless.{guarded_is_faultless}
use Rattle.fault_rates.proofs.Survival.{survives}

pub first_of_two : (a b : Option RuleFault) → option_or a b ≡ first_some (a ∷ b ∷ [])
first_of_two (Some x) b = refl
first_of_two None (Some x) = refl
first_of_two None None = refl

first_of_three : (a b c : Option RuleFault) → option_or (option_or a b) c ≡ first_some (a ∷ b ∷ c ∷ [])
first_of_three (Some x) b c = refl
first_of_three None (Some x) c = refl
first_of_three None None (Some x) = refl
first_of_three None None None = refl

same_search : (number n : ℕ) (f g : ℕ → Bool) → ((k : ℕ) → k < n → f k ≡ g k) → rule_fault number n f ≡ rule_fault number n g
same_search number n f g same =
    first_below-same n (λ k. unless (f k) (fault_at number k)) (λ k. unless (g k) (fault_at number k))
    (λ k below. ap (λ b. unless b (fault_at number k)) (same k below))

same_guard : (net : Network) (routes : List PairRoutes) (demand : List ℕ) (plan : RatePlan) → IsShapedPlan routes plan → (p : ℕ) → p < length routes →
    guard_by net routes plan p ≡ guard (protection_by net routes demand plan) p
same_guard net routes demand plan shaped p below =
    let key = slice_index (allocations_at plan p) in
    let few = paths_left (protection_by net routes demand plan) p in
    ap (λ n. sum_below n (λ i. if is_among_least n key few i then key i else 0)) (shaped.paths p below)

-- the three searches, with the sums that the code has made
pub verdict_search : (net : Network) (routes : List PairRoutes) (demand : List ℕ) (plan : RatePlan) (sums : List ℕ) → IsShapedPlan routes plan →
    ((e : ℕ) → slice_index sums e ≡ allocated_on routes plan e) →
    option_or
    (option_or (rule_fault 1 (link_count net) (λ e. nat_le (slice_index sums e) (capacity_of net e)))
    (rule_fault 2 (length routes) (λ p. nat_le (slice_index plan.grant p) (guard_by net routes plan p))))
    (rule_fault 3 (length routes) (λ p. nat_le (slice_index plan.grant p) (slice_index demand p)))
    ≡ guard_fault (protection_by net routes demand plan)
verdict_search net routes demand plan sums shaped each =
    let x = protection_by net routes demand plan in
    let made = rule_fault 1 (link_count net) (λ e. nat_le (slice_index sums e) (capacity_of net e)) in
    let fits = rule_fault 1 (link_count net) (λ e. nat_le (sum_on_link x x.allocation e) (x.capacity e)) in
    let found = rule_fault 2 (length routes) (λ p. nat_le (slice_index plan.grant p) (guard_by net routes plan p)) in
    let guards = rule_fault 2 (length routes) (λ p. nat_le (x.grant p) (guard x p)) in
    let wanted = rule_fault 3 (length routes) (λ p. nat_le (x.grant p) (x.demand p)) in
    let one : made ≡ fits = same_search 1 (link_count net) (λ e. nat_le (slice_index sums e) (capacity_of net e))
    (λ e. nat_le (sum_on_link x x.allocation e) (x.capacity e)) (λ e below. ap (λ s. nat_le s (capacity_of net e)) (each e)) in
    let two : found ≡ guards = same_search 2 (length routes) (λ p. nat_le (slice_index plan.grant p) (guard_by net routes plan p))
    (λ p. nat_le (x.grant p) (guard x p)) (λ p below. ap (λ g. nat_le (slice_index plan.grant p) g) (same_guard net routes demand plan shaped p below)) in
    ap (λ r. option_or (option_or r found) wanted) one
    ∙ (ap (λ r. option_or (option_or fits r) wanted) two ∙ first_of_three fits guards wanted)

-- ---- what the verdict says

pub verdict_yes : (x : Protection) (v : RateVerdict) → v ≡ verdict_of (guard_fault x) → (v ≡ Yes) ↔ AreGuarded x
verdict_yes x v is = (
  λ said. (guarded_is_faultless x).0 (no_fault_gives verdict_of Yes (λ f e. cc) (guard_fault x) (sym is ∙ said)),
  λ holds. is ∙ ap verdict_of ((guarded_is_faultless x).1 holds),
)

pub verdict_survives : (x : Protection) (v : RateVerdict) → v ≡ verdict_of (guard_fault x) → v ≡ Yes → SurvivesFailures x
verdict_survives x v is said = survives x ((verdict_yes x v is).0 said)

abbrev rule_in : RateVerdict → ℕ
rule_in Yes = 0
rule_in (No rule place) = rule

abbrev place_in : RateVerdict → ℕ
place_in Yes = 0
place_in (No rule place) = place

pub verdict_no : (x : Protection) (v : RateVerdict) (rule place : ℕ) → v ≡ verdict_of (guard_fault x) → v ≡ No rule place →
    IsFirstRuleOf (guard_rules x) (fault_at rule place)
verdict_no x v rule place is said = go (guard_fault x) refl
  where
    go : (o : Option RuleFault) → guard_fault x ≡ o → IsFirstRuleOf (guard_rules x) (fault_at rule place)
    go None e = let same : Yes ≡ No rule place = sym (is ∙ ap verdict_of e) ∙ said in cc
    go (Some f) e =
        let same : No f.number f.place ≡ No rule place = sym (is ∙ ap verdict_of e) ∙ said in
        let found : f ≡ fault_at rule place = λ i. record { number = ap rule_in same i; place = ap place_in same i } in
        (first_rule_of-some (guard_rules x) (fault_at rule place)).0 (e ∙ ap Some found)

-- ---- the same of an answer, which may be that memory was short

pub answer_yes : (x : Protection) (r : Result RateVerdict Memory) → IfOk r (λ v. v ≡ verdict_of (guard_fault x)) → IfOk r (λ v. (v ≡ Yes) ↔ AreGuarded x)
answer_yes x (Ok v) is = verdict_yes x v is
answer_yes x (Err e) is = tt

pub answer_no : (x : Protection) (r : Result RateVerdict Memory) (rule place : ℕ) → IfOk r (λ v. v ≡ verdict_of (guard_fault x)) → r ≡ Ok (No rule place) →
    IsFirstRuleOf (guard_rules x) (fault_at rule place)
answer_no x (Ok v) rule place is said = let same : v ≡ No rule place = cc in verdict_no x v rule place is same
answer_no x (Err e) rule place is said = cc

pub answer_survives : (x : Protection) (r : Result RateVerdict Memory) → IfOk r (λ v. v ≡ verdict_of (guard_fault x)) → r ≡ Ok Yes → SurvivesFailures x
answer_survives x (Ok v) is said = let same : v ≡ Yes = cc in verdict_survives x v is same
answer_survives x (Err e) is said = cc
