use Rattle.std.proofs.Common.{◌≡◌, ◌↔◌, ◌*◌, Option, Some, length, sym, subst}
use Rattle.te_model.specs.declared.certificate.RuleFault.{RuleFault}
use Rattle.te_model.specs.Network.{node_count}
use Rattle.te_model.specs.Validity.{rule_fault}
use Rattle.number_tables.specs.Rules.{IsFirstRuleOf}
use Rattle.number_tables.proofs.FirstRules.{first_rule_of-some}
use Rattle.hose_bound.specs.Rules.{is_small_amount, has_bound, has_link_in_order, has_millionths, hose_cert_rules}
use Rattle.hose_bound.proofs.FirstFaults.{first_of_four}
use Rattle.hose_bound.proofs.rules.hose_cert_fault.Goals as goal

pub returns-clause-search : goal.returns-clause-search
returns-clause-search c =
    let net = c.args.net.now in
    let cert = c.args.cert.now in
    rw (c.or-3.ensures, c.or-2.ensures, c.or.ensures, c.amount_fault.ensures, c.bound_fault.ensures, c.link_fault.ensures, c.number_fault.ensures, c.as_slice-blocks.ensures, c.as_slice.ensures)
    (first_of_four
    (rule_fault 1 (2 * node_count net) (is_small_amount (node_count net) cert.hose))
    (rule_fault 2 1 (λ _. has_bound cert))
    (rule_fault 3 (length cert.blocks) (has_link_in_order net cert.blocks))
    (rule_fault 4 (length cert.blocks) (has_millionths cert.blocks)))

pub returns-clause-first : goal.returns-clause-first
returns-clause-first c = λ f.
    let rules = hose_cert_rules c.args.net.now c.args.cert.now in
    subst (λ (r : Option RuleFault). (r ≡ Some f) ↔ IsFirstRuleOf rules f) (sym (returns-clause-search c)) (first_rule_of-some rules f)
