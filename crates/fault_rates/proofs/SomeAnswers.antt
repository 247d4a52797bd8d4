-- There are answers to rates and to demands.
use Rattle.std.proofs.Common.{◌≡◌, ◌⊎◌, ◌∙◌, ◌≤◌, ℕ, Bool, true, false, ◌&&◌, ◌==◌, List, [], ◌∷◌, ◌++◌, codes, length, map, refl, ap, sym, subst, inl, inr}
use Rattle.std.specs.Prelude.{Decides}
use Rattle.std.specs.Cmp.Lexicographic.{pointwise}
use Rattle.std.proofs.lemmas.Bool.Decides.{Decides-and, Decides-eqb, Decides-like, not_from_Decides}
use Rattle.std.proofs.lemmas.List.{length-map}
use Rattle.std.proofs.lemmas.Slice.Eq.{slice_eq-Decides}
use Rattle.te_model.specs.declared.certificate.Head.{Head}
use Rattle.te_model.specs.declared.route.Pair.{Pair}
use Rattle.te_model.specs.declared.route.PairRoutes.{PairRoutes}
use Rattle.te_model.specs.PathRouting.{IsPathRouting}
use Rattle.te_model.proofs.SameNetworks.{by_test}
use Rattle.routing.specs.Routes.{AreDemands}
use Rattle.fault_rates.specs.declared.plan.RatePlan.{RatePlan}
use Rattle.fault_rates.specs.Answers.{AnswersExist, IsProtectionAnswer, IsRatesAnswer, RoutesPairs, verdict_by, verdict_line, verdict_status}
use Rattle.fault_rates.specs.File.{rates_text}
use Rattle.fault_rates.proofs.SomeProtection.{protections_exist}

abbrev pair_eq : Pair → Pair → Bool
pair_eq x y = x.src == y.src && x.dst == y.dst

pair_eq_Decides : (x y : Pair) → Decides (pair_eq x y) (x ≡ y)
pair_eq_Decides x y =
    Decides-like (pair_eq x y)
    (λ h i. record { src = h.0 i; dst = h.1 i })
    (λ e. (ap (λ (p : Pair). p.src) e, ap (λ (p : Pair). p.dst) e))
    (Decides-and _ _ (Decides-eqb x.src y.src) (Decides-eqb x.dst y.dst))

-- the routes are of these pairs or not
in_order_or_not : (routes : List PairRoutes) (pairs : List Pair) → (map (λ r. r.pair) routes ≡ pairs) ⊎ ¬ (map (λ r. r.pair) routes ≡ pairs)
in_order_or_not routes pairs =
    by_test (pointwise pair_eq (map (λ r. r.pair) routes) pairs) (slice_eq-Decides pair_eq_Decides (map (λ r. r.pair) routes) pairs _ refl)

routed_or_not : (h : Head) (pairs : List Pair) → IsPathRouting h.network h.routes → RoutesPairs h pairs ⊎ ¬ RoutesPairs h pairs
routed_or_not h pairs splits = elim (in_order_or_not h.routes pairs) [
  | inl same ↦ inl (record { in_order = same; splits = splits })
  | inr apart ↦ inr (λ routed. apart routed.in_order)
]

some_rates_answer : (h : Head) (pairs : List Pair) (demand : List ℕ) (plan : RatePlan) → IsPathRouting h.network h.routes →
    (status : ℕ) × (text : List ℕ) × IsRatesAnswer h pairs demand plan status text
some_rates_answer h pairs demand plan splits = elim (routed_or_not h pairs splits) [
  | inl routed ↦
      let verdict = verdict_by h demand plan in
      (verdict_status verdict, verdict_line plan.failures verdict, inl (routed, (refl, refl)))
  | inr others ↦ (1, codes "no pairs" ++ 10 ∷ [], inr (others, (refl, refl)))
]

one_rates_answer : (h : Head) (pairs : List Pair) (demand : List ℕ) (plan : RatePlan) (s t : ℕ) (x y : List ℕ) →
    IsRatesAnswer h pairs demand plan s x → IsRatesAnswer h pairs demand plan t y → (s ≡ t) × (x ≡ y)
one_rates_answer h pairs demand plan s t x y (inl (routed, p)) (inl (also, q)) = (p.0 ∙ sym q.0, p.1 ∙ sym q.1)
one_rates_answer h pairs demand plan s t x y (inl (routed, p)) (inr (others, q)) = absurd (others routed)
one_rates_answer h pairs demand plan s t x y (inr (others, p)) (inl (routed, q)) = absurd (others routed)
one_rates_answer h pairs demand plan s t x y (inr (others, p)) (inr (also, q)) = (p.0 ∙ sym q.0, p.1 ∙ sym q.1)

some_protection_answer : (h : Head) (pairs : List Pair) (demand : List ℕ) (failures : ℕ) → IsPathRouting h.network h.routes →
    AreDemands (length pairs) demand → failures ≤ 8 → (status : ℕ) × (text : List ℕ) × IsProtectionAnswer h pairs demand failures status text
some_protection_answer h pairs demand failures splits demands few = elim (routed_or_not h pairs splits) [
  | inl routed ↦
      let count = sym (ap (λ (l : List Pair). length l) routed.in_order) ∙ length-map h.routes (λ (r : PairRoutes). r.pair) in
      let sized = subst (λ n. AreDemands n demand) count demands in
      let found = protections_exist h.network h.routes demand failures sized few in
      (0, rates_text found.0, inl (routed, (refl, record { plan = found.0; protects = found.1; text_is = refl })))
  | inr others ↦ (1, codes "no pairs" ++ 10 ∷ [], inr (others, (refl, refl)))
]

pub answers_exist : AnswersExist
answers_exist = record { routed = routed_or_not; rates = some_rates_answer; one_of_rates = one_rates_answer; demands = some_protection_answer }
