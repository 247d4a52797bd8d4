-- The verdict on rates: the inequalities F1 to F3, and the first that fails.
use Rattle.std.specs.Prelude.{◌≡◌, ◌↔◌, List, [], ◌∷◌, Option, Some, None, nat_le}
use Rattle.te_model.specs.declared.certificate.RuleFault.{RuleFault}
use Rattle.te_model.specs.Validity.{Rule}
use Rattle.number_tables.specs.Rules.{first_rule_of}
use Rattle.fault_rates.specs.declared.verdict.RateVerdict.{RateVerdict}
use Rattle.fault_rates.specs.declared.verdict.RateVerdict.TheVariants.{Yes, No}
use Rattle.fault_rates.specs.Protection.{Protection, AreGuarded, guard, sum_on_link}

-- F1 of each link, F2 and F3 of each pair
abbrev pub guard_rules : Protection → List Rule
guard_rules x =
    record { places = x.links; holds = λ e. nat_le (sum_on_link x x.allocation e) (x.capacity e) }
    ∷ record { places = x.pairs; holds = λ p. nat_le (x.grant p) (guard x p) }
    ∷ record { places = x.pairs; holds = λ p. nat_le (x.grant p) (x.demand p) }
    ∷ []

-- the failing rule of the least number, at its least place
abbrev pub guard_fault : Protection → Option RuleFault
guard_fault x = first_rule_of (guard_rules x)

-- the verdict that the first fault makes
abbrev pub verdict_of : Option RuleFault → RateVerdict
verdict_of None = Yes
verdict_of (Some f) = No f.number f.place

-- no rule fails exactly where the rates are guarded
abbrev pub GuardedIsFaultless : Type 0
GuardedIsFaultless = (x : Protection) → (guard_fault x ≡ None) ↔ AreGuarded x
