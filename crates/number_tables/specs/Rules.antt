-- Rules of what a small file spells, and the first that fails.
use Rattle.std.specs.Prelude.{◌≡◌, ◌↔◌, ℕ, List, Option, Some, None}
use Rattle.te_model.specs.declared.certificate.Certificate.{Certificate}
use Rattle.te_model.specs.declared.certificate.RuleFault.{RuleFault}
use Rattle.te_model.specs.Counting.{first_some, IsUpTo}
use Rattle.te_model.specs.Validity.{Rule, FailsFrom, IsFirstRule, faults_from, first_rule, rules}

-- the failing rule of the least number, at its least place; the first of the rules has the number 1
abbrev pub first_rule_of : List Rule → Option RuleFault
first_rule_of rs = first_some (faults_from 1 rs)

-- one of the rules fails there, and every one that fails does so there or later
pub record IsFirstRuleOf (rs : List Rule) (f : RuleFault) : Type 0 where
  pub fails : FailsFrom 1 rs f.number f.place
  pub least : (number place : ℕ) → FailsFrom 1 rs number place → IsUpTo f.number f.place number place

-- The search of rules finds the first that fails, and none exactly where all hold. Of the rules of certificates it is the
-- search of these.
pub record SearchFindsFirstRule : Type 0 where
  pub some : (rs : List Rule) (f : RuleFault) → (first_rule_of rs ≡ Some f) ↔ IsFirstRuleOf rs f
  pub none : (rs : List Rule) → (first_rule_of rs ≡ None) ↔ ((number place : ℕ) → ¬ FailsFrom 1 rs number place)
  pub search : (c : Certificate) → first_rule_of (rules c) ≡ first_rule c
  pub first : (c : Certificate) (f : RuleFault) → IsFirstRuleOf (rules c) f ↔ IsFirstRule c f
