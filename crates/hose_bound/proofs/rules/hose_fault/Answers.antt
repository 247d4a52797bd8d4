use Rattle.std.proofs.Common.{◌≡◌, ◌↔◌, ◌∙◌, ◌*◌, Option, Some, sym, subst}
use Rattle.te_model.specs.declared.certificate.RuleFault.{RuleFault}
use Rattle.te_model.specs.Validity.{rule_fault}
use Rattle.number_tables.specs.Rules.{IsFirstRuleOf}
use Rattle.number_tables.proofs.FirstRules.{first_rule_of-some}
use Rattle.hose_bound.specs.Rules.{hose_fault, hose_rules, is_small_amount}
use Rattle.hose_bound.proofs.FirstFaults.{first_of_one}
use Rattle.hose_bound.proofs.rules.hose_fault.Goals as goal

pub returns-clause-search : goal.returns-clause-search
returns-clause-search c =
    c.amount_fault.ensures ∙ first_of_one (rule_fault 1 (2 * c.args.nodes) (is_small_amount c.args.nodes c.args.hose.now))

pub returns-clause-first : goal.returns-clause-first
returns-clause-first c = λ f.
    let nodes = c.args.nodes in
    let h = c.args.hose.now in
    let found : c.amount_fault.result ≡ hose_fault nodes h = c.amount_fault.ensures ∙ first_of_one (rule_fault 1 (2 * nodes) (is_small_amount nodes h)) in
    subst (λ (o : Option RuleFault). (o ≡ Some f) ↔ IsFirstRuleOf (hose_rules nodes h) f) (sym found) (first_rule_of-some (hose_rules nodes h) f)
