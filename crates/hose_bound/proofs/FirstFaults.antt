-- The first fault of one rule, and of four, taken one after the other.
use Rattle.std.proofs.Common.{◌≡◌, Option, Some, None, [], ◌∷◌, refl}
use Rattle.std.specs.Option.{option_or}
use Rattle.te_model.specs.declared.certificate.RuleFault.{RuleFault}
use Rattle.te_model.specs.Counting.{first_some}

pub first_of_four : (a b c d : Option RuleFault) → option_or (option_or (option_or a b) c) d ≡ first_some (a ∷ b ∷ c ∷ d ∷ [])
first_of_four (Some x) b c d = refl
first_of_four None (Some x) c d = refl
first_of_four None None (Some x) d = refl
first_of_four None None None (Some x) = refl
first_of_four None None None None = refl

pub first_of_one : (a : Option RuleFault) → a ≡ first_some (a ∷ [])
first_of_one (Some x) = refl
first_of_one None = refl
