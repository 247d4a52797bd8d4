-- No rule fails exactly where the rates are guarded.
use Rattle.std.proofs.Common.{◌≡◌, ℕ, ◌<◌, Bool, true, Option, None, nat_le, ap, ◌∙◌}
use Rattle.std.proofs.lemmas.Bool.{le-leb, leb-true}
use Rattle.te_model.specs.declared.certificate.RuleFault.{RuleFault}
use Rattle.te_model.specs.Counting.{or_else, unless}
use Rattle.te_model.specs.Validity.{fault_at, rule_fault}
use Rattle.te_model.proofs.Searches.{first_below_none, rule_fault_none}
use Rattle.te_model.proofs.Tests.{first_failing_none_at, or_else_none}
use Rattle.fault_rates.specs.Protection.{AreGuarded, guard, sum_on_link}
use Rattle.fault_rates.specs.Verdict.{GuardedIsFaultless, guard_fault}

pub guarded_is_faultless : GuardedIsFaultless
guarded_is_faultless x = (to, from)
  where
    to : guard_fault x ≡ None → AreGuarded x
    to none =
        let one = or_else_none (rule_fault 1 x.links (λ e. nat_le (sum_on_link x x.allocation e) (x.capacity e))) _ none in
        let two = or_else_none (rule_fault 2 x.pairs (λ p. nat_le (x.grant p) (guard x p))) _ one.1 in
        let three = or_else_none (rule_fault 3 x.pairs (λ p. nat_le (x.grant p) (x.demand p))) _ two.1 in
        record {
          fits = λ e below. leb-true _ _ (first_failing_none_at x.links (λ e. nat_le (sum_on_link x x.allocation e) (x.capacity e)) (fault_at 1) e one.0 below);
          guarded = λ p below. leb-true _ _ (first_failing_none_at x.pairs (λ p. nat_le (x.grant p) (guard x p)) (fault_at 2) p two.0 below);
          wanted = λ p below. leb-true _ _ (first_failing_none_at x.pairs (λ p. nat_le (x.grant p) (x.demand p)) (fault_at 3) p three.0 below);
        }

    from : AreGuarded x → guard_fault x ≡ None
    from holds =
        let one = rule_fault_none 1 x.links (λ e. nat_le (sum_on_link x x.allocation e) (x.capacity e)) (λ e below. le-leb _ _ (holds.fits e below)) in
        let two = rule_fault_none 2 x.pairs (λ p. nat_le (x.grant p) (guard x p)) (λ p below. le-leb _ _ (holds.guarded p below)) in
        let three = rule_fault_none 3 x.pairs (λ p. nat_le (x.grant p) (x.demand p)) (λ p below. le-leb _ _ (holds.wanted p below)) in
        let guards = rule_fault 2 x.pairs (λ p. nat_le (x.grant p) (guard x p)) in
        let wanted = rule_fault 3 x.pairs (λ p. nat_le (x.grant p) (x.demand p)) in
        ap (λ (r : Option RuleFault). or_else r (or_else guards (or_else wanted None))) one
        ∙ (ap (λ (r : Option RuleFault). or_else r (or_else wanted None)) two ∙ ap (λ (r : Option RuleFault). or_else r None) three)
