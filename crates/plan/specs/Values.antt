-- What the value of each key of a plan says, or the first of its faults: its kind, its range, its scheme name.
use Rattle.std.specs.Prelude.{ℕ, suc, List, [], ◌∷◌, ◌++◌, Bool, true, ◌&&◌, ◌||◌, Option, Some, None, is_some, option_and_then, Result, Ok, Err, nat_le, nat_lt, ◌==◌, if◌then◌else◌}
use Rattle.serde_json.specs.Data.{Data, Items, no_items, item}
use Rattle.serde_json.specs.Find.{as_str, as_bool, as_number, as_u64, as_array}
use Rattle.plan.specs.declared.scheme_name.SchemeName.{SchemeName}
use Rattle.plan.specs.declared.recovery.Recovery.{Recovery}
use Rattle.plan.specs.declared.key.Key.{Key}
use Rattle.plan.specs.declared.key.Key.TheVariants as key
use Rattle.plan.specs.declared.fault.PlanFault.{PlanFault}
use Rattle.plan.specs.declared.fault.PlanFault.TheVariants as fault
use Rattle.plan.specs.Words.{scheme_named, is_oblivious, recovery_named}

-- the value, or else the fault
abbrev pub given_or : {A B : Type 0} → PlanFault → (A → Result B PlanFault) → Option A → Result B PlanFault
given_or e read None = Err e
given_or e read (Some x) = read x

-- a text that is not empty
abbrev pub nonempty_text : Key → List ℕ → Result (List ℕ) PlanFault
nonempty_text k [] = Err (fault.Range k)
nonempty_text k (c ∷ cs) = Ok (c ∷ cs)

abbrev pub text_value : Key → Data → Result (List ℕ) PlanFault
text_value k d = given_or (fault.Kind k) (nonempty_text k) (as_str d)

-- a whole number
abbrev pub whole : Data → Option ℕ
whole d = option_and_then as_u64 (as_number d)

abbrev pub between : Key → ℕ → ℕ → ℕ → Result ℕ PlanFault
between k low high n = if nat_le low n && nat_le n high then Ok n else Err (fault.Range k)

-- a whole number from low to high
abbrev pub number_within : Key → ℕ → ℕ → Data → Result ℕ PlanFault
number_within k low high d = given_or (fault.Kind k) (between k low high) (whole d)

-- a fraction of at least 1, whose numbers are 1 to 1000
abbrev pub fraction : ℕ → ℕ → Result (ℕ × ℕ) PlanFault
fraction num den = if nat_le 1 den && nat_le den num && nat_le num 1000 then Ok (num, den) else Err (fault.Range key.Margin)

abbrev pub fraction_of : Items → Result (ℕ × ℕ) PlanFault
fraction_of (item a (item b no_items)) = given_or (fault.Kind key.Margin) (λ num. given_or (fault.Kind key.Margin) (fraction num) (whole b)) (whole a)
fraction_of ds = Err (fault.Kind key.Margin)

-- a list of two whole numbers
abbrev pub margin_of : Data → Result (ℕ × ℕ) PlanFault
margin_of d = given_or (fault.Kind key.Margin) fraction_of (as_array d)

-- an envelope, which is not asked for beside a margin
abbrev pub alone : Option (ℕ × ℕ) → Bool → Result Bool PlanFault
alone margin asked = if asked && is_some margin then Err (fault.Range key.Envelope) else Ok asked

-- whether an envelope is asked for
abbrev pub envelope_value : Option (ℕ × ℕ) → Data → Result Bool PlanFault
envelope_value margin d = given_or (fault.Kind key.Envelope) (alone margin) (as_bool d)

abbrev pub recovery_of : Data → Result Recovery PlanFault
recovery_of d = given_or (fault.Kind key.Recovery) (λ text. given_or (fault.Range key.Recovery) Ok (recovery_named text)) (as_str d)

abbrev pub publishable : SchemeName → Result SchemeName PlanFault
publishable s = if is_oblivious s then Ok s else Err (fault.SchemeName key.Publish)

abbrev pub publish_of : Data → Result SchemeName PlanFault
publish_of d = given_or (fault.Kind key.Publish) (λ text. given_or (fault.SchemeName key.Publish) publishable (scheme_named text)) (as_str d)

-- each value is a text
abbrev pub are_texts : Items → Bool
are_texts no_items = true
are_texts (item d ds) = is_some (as_str d) && are_texts ds

-- the schemes so far, and those that the values name
abbrev pub names_after : List SchemeName → Items → Option (List SchemeName)
names_after names no_items = Some names
names_after names (item d ds) = option_and_then (λ s. names_after (names ++ s ∷ []) ds) (option_and_then scheme_named (as_str d))

abbrev pub count_of : Items → ℕ
count_of no_items = 0
count_of (item d ds) = suc (count_of ds)

-- one to sixteen schemes
abbrev pub named_schemes : Items → Result (List SchemeName) PlanFault
named_schemes ds =
    if are_texts ds
    then (if count_of ds == 0 || nat_lt 16 (count_of ds) then Err (fault.Range key.Schemes) else given_or (fault.SchemeName key.Schemes) Ok (names_after [] ds))
    else Err (fault.Kind key.Schemes)

abbrev pub schemes_of : Data → Result (List SchemeName) PlanFault
schemes_of d = given_or (fault.Kind key.Schemes) named_schemes (as_array d)
