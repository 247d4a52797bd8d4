use Rattle.std.proofs.Common.{◌≡◌, ◌↔◌, Option, Some, length, nat_le, subst, sym}
use Rattle.te_model.specs.declared.certificate.RuleFault.{RuleFault}
use Rattle.te_model.specs.Validity.{rule_fault}
use Rattle.number_tables.specs.Rules.{IsFirstRuleOf}
use Rattle.number_tables.proofs.FirstRules.{first_rule_of-some}
use Rattle.fault_rates.specs.Plan.{has_small_rates, plan_fault, plan_rules}
use Rattle.fault_rates.proofs.Verdicts.{first_of_two}
use Rattle.fault_rates.proofs.plan.plan_fault.Goals as goal

pub returns-clause-search : goal.returns-clause-search
returns-clause-search c =
    let plan = c.args.plan.now in
    rw (c.or.ensures, c.failures_fault.ensures, c.rates_fault.ensures)
    (first_of_two (rule_fault 1 1 (λ k. nat_le plan.failures 8)) (rule_fault 2 (length plan.grant) (has_small_rates plan)))

pub returns-clause-first : goal.returns-clause-first
returns-clause-first c = λ f.
    let plan = c.args.plan.now in
    let found : c.or.result ≡ plan_fault plan =
    rw (c.or.ensures, c.failures_fault.ensures, c.rates_fault.ensures)
    (first_of_two (rule_fault 1 1 (λ k. nat_le plan.failures 8)) (rule_fault 2 (length plan.grant) (has_small_rates plan)))
    in
    subst (λ (o : Option RuleFault). (o ≡ Some f) ↔ IsFirstRuleOf (plan_rules plan) f) (sym found) (first_rule_of-some (plan_rules plan) f)
