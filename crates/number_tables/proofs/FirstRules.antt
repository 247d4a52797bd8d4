-- The fault that a search of rules finds is the first.
use Rattle.std.proofs.Common.{◌≡◌, ℕ, ◌↔◌, Option, Some, None, List, refl, ap}
use Rattle.te_model.specs.declared.certificate.RuleFault.{RuleFault}
use Rattle.te_model.specs.Validity.{Rule, FailsFrom}
use Rattle.te_model.proofs.RuleSearch.{found_fails_from, none_fails_from, same_fault}
use Rattle.number_tables.specs.Rules.{first_rule_of, IsFirstRuleOf, SearchFindsFirstRule}

pub first_rule_of-some : (rs : List Rule) (f : RuleFault) → (first_rule_of rs ≡ Some f) ↔ IsFirstRuleOf rs f
first_rule_of-some rs f = (to, from (first_rule_of rs) refl)
  where
    to : first_rule_of rs ≡ Some f → IsFirstRuleOf rs f
    to e = let found = found_fails_from 1 rs f e in record { fails = found.0; least = found.1 }

    from : (o : Option RuleFault) → first_rule_of rs ≡ o → IsFirstRuleOf rs f → first_rule_of rs ≡ Some f
    from None e first = absurd (none_fails_from 1 rs e f.number f.place first.fails)
    from (Some g) e first =
        let found = found_fails_from 1 rs g e in
        rw e (ap Some (same_fault g f (found.1 f.number f.place first.fails) (first.least g.number g.place found.0)))

pub first_rule_of-none : (rs : List Rule) → (first_rule_of rs ≡ None) ↔ ((number place : ℕ) → ¬ FailsFrom 1 rs number place)
first_rule_of-none rs = (none_fails_from 1 rs, from (first_rule_of rs) refl)
  where
    from : (o : Option RuleFault) → first_rule_of rs ≡ o → ((number place : ℕ) → ¬ FailsFrom 1 rs number place) → first_rule_of rs ≡ None
    from None e none = e
    from (Some g) e none = absurd (none g.number g.place (found_fails_from 1 rs g e).0)

-- an answer that no fault gives is given where there is none
pub no_fault_gives : {V : Type 0} (answer_of : Option RuleFault → V) (v : V) → ((f : RuleFault) → ¬ (answer_of (Some f) ≡ v)) →
    (o : Option RuleFault) → answer_of o ≡ v → o ≡ None
no_fault_gives answer_of v apart None is = refl
no_fault_gives answer_of v apart (Some f) is = absurd (apart f is)

pub search_finds_first_rule : SearchFindsFirstRule
search_finds_first_rule = record {
  some = first_rule_of-some;
  none = first_rule_of-none;
  search = λ c. refl;
  first = λ c f. (
    λ is. record { fails = is.fails; least = is.least },
    λ is. record { fails = is.fails; least = is.least },
  );
}
