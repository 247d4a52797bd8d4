-- What reading a file of rates answers.
use Rattle.std.specs.Prelude.{◌≡◌, ◌⊎◌, ℕ, List, codes, Result, Ok, Err, Option, Some, None}
use Rattle.te_model.specs.declared.certificate.RuleFault.{RuleFault}
use Rattle.te_model.specs.declared.route.PairRoutes.{PairRoutes}
use Rattle.cert_text.specs.Reading.{narrow_number}
use Rattle.number_tables.specs.declared.fault.TableFault.{TableFault}
use Rattle.number_tables.specs.declared.fault.TableFault.TheVariants as tables
use Rattle.number_tables.specs.Due.{LeavesSmallFiles}
use Rattle.fault_rates.specs.declared.fault.RateFault.{RateFault}
use Rattle.fault_rates.specs.declared.fault.RateFault.TheVariants as faults
use Rattle.fault_rates.specs.declared.plan.RatePlan.{RatePlan}
use Rattle.fault_rates.specs.File.{HasWords, rates_due, rates_text}
use Rattle.fault_rates.specs.Plan.{IsShapedPlan, plan_fault}

-- the fault of a table as one of a file of rates
abbrev pub fault_of : TableFault → RateFault
fault_of (tables.Shape k) = faults.Shape k
fault_of tables.Memory = faults.Memory

-- the bytes are the file of these rates of the routing
pub record SpellsRates (routes : List PairRoutes) (bytes : List ℕ) (plan : RatePlan) : Type 0 where
  pub shaped : IsShapedPlan routes plan
  pub words : HasWords plan
  pub file : bytes ≡ rates_text plan

-- the rates with the number of failures that is kept
abbrev pub with_kept_failures : RatePlan → RatePlan
with_kept_failures plan = record { failures = narrow_number plan.failures; grant = plan.grant; allocation = plan.allocation }

-- keeping no more than 32 bits of the number of failures changes no rule's answer
abbrev pub KeptHasSameFault : Type 0
KeptHasSameFault = (plan : RatePlan) → plan_fault (with_kept_failures plan) ≡ plan_fault plan

-- rates that the bytes spell, of which the number of failures is kept, or the line at which the bytes leave their files
abbrev pub SpellsKept : List PairRoutes → List ℕ → Result RatePlan TableFault → Type 0
SpellsKept routes bytes (Ok kept) =
    (plan : RatePlan) × SpellsRates routes bytes plan
    × (kept ≡ with_kept_failures plan)
SpellsKept routes bytes (Err (tables.Shape k)) = LeavesSmallFiles (codes "yates-rates 1") (rates_due routes) bytes k
SpellsKept routes bytes (Err tables.Memory) = Unit {0}

-- what is read where the first rule that fails is this one, or none does
abbrev pub read_unless : {X : Type 0} → Option RuleFault → X → Result X RateFault
read_unless None x = Ok x
read_unless (Some f) x = Err (faults.Rule f)

-- what the bytes mean for a routing
pub data MeansRates (routes : List PairRoutes) (bytes : List ℕ) (answer : Result RatePlan RateFault) : Type 0 where
  spelled : (plan : RatePlan) → SpellsRates routes bytes plan → answer ≡ read_unless (plan_fault plan) plan → MeansRates routes bytes answer
  misshaped : (k : ℕ) → LeavesSmallFiles (codes "yates-rates 1") (rates_due routes) bytes k → answer ≡ Err (faults.Shape k) → MeansRates routes bytes answer

-- the answer is what the bytes mean, or memory ran out
abbrev pub GivesRates : List PairRoutes → List ℕ → Result RatePlan RateFault → Type 0
GivesRates routes bytes answer = MeansRates routes bytes answer ⊎ (answer ≡ Err faults.Memory)

-- the answer is these rates, or memory ran out
abbrev pub GivesRatesOrMemory : Result RatePlan RateFault → RatePlan → Type 0
GivesRatesOrMemory answer plan = (answer ≡ Ok plan) ⊎ (answer ≡ Err faults.Memory)

-- Bytes have one meaning for a routing.
abbrev pub RatesHaveOneMeaning : Type 0
RatesHaveOneMeaning =
    (routes : List PairRoutes) (bytes : List ℕ) →
    (answer : Result RatePlan RateFault) × MeansRates routes bytes answer
    × ((other : Result RatePlan RateFault) → MeansRates routes bytes other → answer ≡ other)
