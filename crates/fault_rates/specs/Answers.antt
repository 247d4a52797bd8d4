-- What is answered of a certificate's routing and the demands of declared pairs: the status, and the whole text.
use Rattle.std.specs.Prelude.{◌≡◌, ◌⊎◌, ◌≤◌, ℕ, List, [], ◌∷◌, ◌++◌, codes, length}
use Rattle.std.specs.Fmt.{decimal}
use Rattle.te_model.specs.declared.certificate.Head.{Head}
use Rattle.te_model.specs.declared.network.Network.{Network}
use Rattle.te_model.specs.declared.route.Pair.{Pair}
use Rattle.te_model.specs.declared.route.PairRoutes.{PairRoutes}
use Rattle.te_model.specs.PathRouting.{IsPathRouting}
use Rattle.routing.specs.Routes.{AreDemands, IsRoutingOf}
use Rattle.fault_rates.specs.declared.plan.RatePlan.{RatePlan}
use Rattle.fault_rates.specs.declared.verdict.RateVerdict.{RateVerdict}
use Rattle.fault_rates.specs.declared.verdict.RateVerdict.TheVariants.{Yes, No}
use Rattle.fault_rates.specs.File.{rates_text}
use Rattle.fault_rates.specs.Making.{IsProtection}
use Rattle.fault_rates.specs.Plan.{protection_by}
use Rattle.fault_rates.specs.Verdict.{guard_fault, verdict_of}

-- the certificate routes the declared pairs
abbrev pub RoutesPairs : Head → List Pair → Type 0
RoutesPairs h pairs = IsRoutingOf h.network pairs h.routes

-- the status and the line of declared pairs that are others
abbrev pub SaysNoPairs : ℕ → List ℕ → Type 0
SaysNoPairs status text = (status ≡ 1) × (text ≡ codes "no pairs" ++ 10 ∷ [])

-- the certificate routes the declared pairs, and then this is answered, or it is said that they are others
abbrev pub IfRoutesPairs : Head → List Pair → ℕ → List ℕ → Type 0 → Type 0
IfRoutesPairs h pairs status text Answer = (RoutesPairs h pairs × Answer) ⊎ ((¬ RoutesPairs h pairs) × SaysNoPairs status text)

-- the status and the line of a verdict on rates for so many failures
abbrev pub verdict_status : RateVerdict → ℕ
verdict_status Yes = 0
verdict_status (No rule place) = 1

abbrev pub verdict_line : ℕ → RateVerdict → List ℕ
verdict_line failures Yes = codes "yes failures " ++ (decimal failures ++ 10 ∷ [])
verdict_line failures (No rule place) = codes "no rule F" ++ (decimal rule ++ (codes " place " ++ (decimal place ++ 10 ∷ [])))

-- the verdict on rates of the certificate's routing under these demands
abbrev pub verdict_by : Head → List ℕ → RatePlan → RateVerdict
verdict_by h demand plan = verdict_of (guard_fault (protection_by h.network h.routes demand plan))

-- the answer to rates
abbrev pub IsRatesAnswer : Head → List Pair → List ℕ → RatePlan → ℕ → List ℕ → Type 0
IsRatesAnswer h pairs demand plan status text =
    IfRoutesPairs h pairs status text
    ((status ≡ verdict_status (verdict_by h demand plan)) × (text ≡ verdict_line plan.failures (verdict_by h demand plan)))

-- the text is the file of rates that survive so many failures, of which nothing can be raised
pub record IsProtectionText (net : Network) (routes : List PairRoutes) (demand : List ℕ) (failures : ℕ) (text : List ℕ) : Type 0 where
  pub plan : RatePlan
  pub protects : IsProtection net routes demand failures plan
  pub text_is : text ≡ rates_text plan

-- the answer to the demands
abbrev pub IsProtectionAnswer : Head → List Pair → List ℕ → ℕ → ℕ → List ℕ → Type 0
IsProtectionAnswer h pairs demand failures status text =
    IfRoutesPairs h pairs status text ((status ≡ 0) × IsProtectionText h.network h.routes demand failures text)

-- A certificate whose routes are a routing routes the declared pairs or not. There is one answer to rates, and an answer to demands of at
-- most 2^32.
pub record AnswersExist : Type 0 where
  pub routed : (h : Head) (pairs : List Pair) → IsPathRouting h.network h.routes → RoutesPairs h pairs ⊎ ¬ RoutesPairs h pairs
  pub rates : (h : Head) (pairs : List Pair) (demand : List ℕ) (plan : RatePlan) → IsPathRouting h.network h.routes →
      (status : ℕ) × (text : List ℕ) × IsRatesAnswer h pairs demand plan status text
  pub one_of_rates : (h : Head) (pairs : List Pair) (demand : List ℕ) (plan : RatePlan) (s t : ℕ) (x y : List ℕ) →
      IsRatesAnswer h pairs demand plan s x → IsRatesAnswer h pairs demand plan t y → (s ≡ t) × (x ≡ y)
  pub demands : (h : Head) (pairs : List Pair) (demand : List ℕ) (failures : ℕ) → IsPathRouting h.network h.routes →
      AreDemands (length pairs) demand → failures ≤ 8 → (status : ℕ) × (text : List ℕ) × IsProtectionAnswer h pairs demand failures status text
