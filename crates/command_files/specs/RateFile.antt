-- The file of rates.
use Rattle.std.specs.Prelude.{ℕ, List, codes}
use Rattle.te_model.specs.declared.route.PairRoutes.{PairRoutes}
use Rattle.fault_rates.specs.declared.fault.RateFault.{RateFault}
use Rattle.fault_rates.specs.declared.fault.RateFault.TheVariants.{Shape, Rule, Memory}
use Rattle.fault_rates.specs.declared.plan.RatePlan.{RatePlan}
use Rattle.fault_rates.specs.Reading.{MeansRates}
use Rattle.command_frame.specs.Reading.{Kind}
use Rattle.command_files.specs.InputFile.{inputs_meant}
use Rattle.command_files.specs.Refusals.{shape_reason, rule_reason}

-- the words for a fault
abbrev pub rates_reason : RateFault → List ℕ
rates_reason (Shape line) = shape_reason line
rates_reason (Rule rule) = rule_reason (codes "G") rule
rates_reason Memory = codes "memory"

-- what the bytes mean as rates of these routes, or their fault
abbrev pub rate_files : List PairRoutes → Kind RatePlan
rate_files routes = inputs_meant rates_reason (MeansRates routes)
