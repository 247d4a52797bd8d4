-- What the answers to demands and to rates say.
use Rattle.std.proofs.Common.{◌≡◌, ◌∙◌, ◌≤◌, ℕ, List, Ok, ap, arith, refl, sym}
use Rattle.te_model.specs.declared.network.Network.{Network}
use Rattle.te_model.specs.declared.route.PairRoutes.{PairRoutes}
use Rattle.fault_rates.specs.declared.plan.RatePlan.{RatePlan}
use Rattle.fault_rates.specs.declared.verdict.RateVerdict.{RateVerdict}
use Rattle.fault_rates.specs.declared.verdict.RateVerdict.TheVariants.{Yes, No}
use Rattle.fault_rates.specs.Answers.{verdict_status}
use Rattle.fault_rates.specs.File.{rates_text}
use Rattle.fault_rates.specs.Making.{IsProtection}
use Rattle.fault_rates.specs.Plan.{IsValidPlan, protection_by}
use Rattle.fault_rates.specs.Reading.{MeansRates, spelled, read_unless}
use Rattle.fault_rates.specs.Verdict.{guard_fault, verdict_of}
use Rattle.fault_rates.proofs.Faultless.{guarded_is_faultless}
use Rattle.fault_rates.proofs.Words.{valid_words}

-- a status is 0 or 1, and is 0 at a yes alone
pub status_small : (v : RateVerdict) → verdict_status v ≤ 1
status_small Yes = omega arith
status_small (No rule place) = omega arith

pub yes_at_zero : (v : RateVerdict) → 0 ≡ verdict_status v → v ≡ Yes
yes_at_zero Yes e = refl
yes_at_zero (No rule place) e = absurd (omega (arith, e))

-- the text of rates that keep the rules means these rates
pub text_means : (routes : List PairRoutes) (plan : RatePlan) → IsValidPlan routes plan → MeansRates routes (rates_text plan) (Ok plan)
text_means routes plan valid =
    spelled plan
    (record { shaped = valid.shaped; words = valid_words plan valid.no_fault (valid.shaped.pairs ∙ sym valid.shaped.grants); file = refl })
    (ap (λ o. read_unless o plan) (sym valid.no_fault))

-- rates that protect get a yes
pub protection_is_yes : (net : Network) (routes : List PairRoutes) (demand : List ℕ) (failures : ℕ) (plan : RatePlan) →
    IsProtection net routes demand failures plan → verdict_of (guard_fault (protection_by net routes demand plan)) ≡ Yes
protection_is_yes net routes demand failures plan is =
    ap verdict_of ((guarded_is_faultless (protection_by net routes demand plan)).1 is.guarded)
