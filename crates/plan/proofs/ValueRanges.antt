-- What the value of each key says is in range.
use Rattle.std.proofs.Common.{ℕ, suc, ◌+◌, ◌≤◌, ◌≡◌, ◌≢◌, refl, List, [], ◌∷◌, ◌++◌, length, length-append, Bool, true, false, ◌&&◌, ◌||◌, ◌==◌, nat_lt, nat_le, Option, Some, None, IfOk, option_and_then, Result, Ok, Err, arith, if◌then◌else◌}
use Rattle.std.proofs.lemmas.Bool.{false≢true, and_parts, leb-true}
use Rattle.std.proofs.lemmas.Bool.Decides.{nat_tests}
use Rattle.serde_json.specs.Data.{Data, Items, no_items, item}
use Rattle.serde_json.specs.Find.{as_str, as_bool, as_array}
use Rattle.plan.specs.declared.scheme_name.SchemeName.{SchemeName}
use Rattle.plan.specs.declared.key.Key.{Key}
use Rattle.plan.specs.declared.key.Key.TheVariants as key
use Rattle.plan.specs.declared.fault.PlanFault.{PlanFault}
use Rattle.plan.specs.declared.fault.PlanFault.TheVariants as fault
use Rattle.plan.specs.Values.{given_or, nonempty_text, text_value, whole, between, number_within, fraction, fraction_of, margin_of, alone, envelope_value, publishable, publish_of, are_texts, names_after, count_of, named_schemes, schemes_of}
use Rattle.plan.specs.Words.{scheme_named, is_oblivious}

-- a value that is there
pub given : {A B : Type 0} (e : PlanFault) (read : A → Result B PlanFault) (o : Option A) (P : B → Type 0) → ((x : A) → IfOk (read x) P) → IfOk (given_or e read o) P
given e read None P each = tt
given e read (Some x) P each = each x

-- a value that a test lets pass
tested : {B : Type 0} (test : Bool) (x : B) (e : PlanFault) (P : B → Type 0) → (test ≡ true → P x) → IfOk (if test then Ok x else Err e) P
tested true x e P p = p refl
tested false x e P p = tt

filled-range : (k : Key) (text : List ℕ) → IfOk (nonempty_text k text) (λ t. t ≢ [])
filled-range k [] = tt
filled-range k (c ∷ cs) = λ e. cc e

pub text-range : (k : Key) (d : Data) → IfOk (text_value k d) (λ t. t ≢ [])
text-range k d = given (fault.Kind k) (nonempty_text k) (as_str d) (λ t. t ≢ []) (filled-range k)

-- a number from low to high
abbrev pub IsBetween : ℕ → ℕ → ℕ → Type 0
IsBetween low high n = (low ≤ n) × (n ≤ high)

between-range : (k : Key) (low high n : ℕ) → IfOk (between k low high n) (IsBetween low high)
between-range k low high n =
    tested (nat_le low n && nat_le n high) n (fault.Range k) (IsBetween low high)
    (λ h. let (above, below) = and_parts (nat_le low n) (nat_le n high) h in (leb-true low n above, leb-true n high below))

pub number-range : (k : Key) (low high : ℕ) (d : Data) → IfOk (number_within k low high d) (IsBetween low high)
number-range k low high d = given (fault.Kind k) (between k low high) (whole d) (IsBetween low high) (between-range k low high)

-- a fraction of at least 1
abbrev pub IsMargin : ℕ × ℕ → Type 0
IsMargin m = (1 ≤ m.1) × (m.1 ≤ m.0) × (m.0 ≤ 1000)

fraction-range : (num den : ℕ) → IfOk (fraction num den) IsMargin
fraction-range num den =
    tested (nat_le 1 den && nat_le den num && nat_le num 1000) (num, den) (fault.Range key.Margin) IsMargin
    (λ h.
    let (front, few) = and_parts (nat_le 1 den && nat_le den num) (nat_le num 1000) h in
    let (some, more) = and_parts (nat_le 1 den) (nat_le den num) front in
    (leb-true 1 den some, leb-true den num more, leb-true num 1000 few))

items-range : (ds : Items) → IfOk (fraction_of ds) IsMargin
items-range no_items = tt
items-range (item a no_items) = tt
items-range (item a (item b no_items)) =
    given (fault.Kind key.Margin) (λ num. given_or (fault.Kind key.Margin) (fraction num) (whole b)) (whole a) IsMargin
    (λ num. given (fault.Kind key.Margin) (fraction num) (whole b) IsMargin (fraction-range num))
items-range (item a (item b (item c ds))) = tt

pub margin-range : (d : Data) → IfOk (margin_of d) IsMargin
margin-range d = given (fault.Kind key.Margin) fraction_of (as_array d) IsMargin items-range

alone-range : (margin : Option (ℕ × ℕ)) (asked : Bool) → IfOk (alone margin asked) (λ a. a ≡ true → margin ≡ None)
alone-range None true = λ h. refl
alone-range None false = λ h. refl
alone-range (Some m) true = tt
alone-range (Some m) false = λ h. absurd (false≢true h)

pub envelope-range : (margin : Option (ℕ × ℕ)) (d : Data) → IfOk (envelope_value margin d) (λ a. a ≡ true → margin ≡ None)
envelope-range margin d = given (fault.Kind key.Envelope) (alone margin) (as_bool d) (λ a. a ≡ true → margin ≡ None) (alone-range margin)

pub publish-range : (d : Data) → IfOk (publish_of d) (λ s. is_oblivious s ≡ true)
publish-range d =
    let P = λ (s : SchemeName). is_oblivious s ≡ true in
    given (fault.Kind key.Publish) (λ text. given_or (fault.SchemeName key.Publish) publishable (scheme_named text)) (as_str d) P
    (λ text. given (fault.SchemeName key.Publish) publishable (scheme_named text) P (λ s. tested (is_oblivious s) s (fault.SchemeName key.Publish) P (λ h. h)))

-- one scheme more for each value
names-count : (names : List SchemeName) (ds : Items) (all : List SchemeName) → names_after names ds ≡ Some all → length all ≡ length names + count_of ds
names-count names no_items all h = let same : names ≡ all = cc h in rw same (omega arith)
names-count names (item d ds) all h = go (option_and_then scheme_named (as_str d)) (λ s. names-count (names ++ s ∷ []) ds all) h
  where
    go : (o : Option SchemeName) → ((s : SchemeName) → names_after (names ++ s ∷ []) ds ≡ Some all → length all ≡ length (names ++ s ∷ []) + count_of ds)
        → option_and_then (λ s. names_after (names ++ s ∷ []) ds) o ≡ Some all → length all ≡ length names + suc (count_of ds)
    go None rest k = cc k
    go (Some s) rest k = omega (arith, rest s k, length-append names (s ∷ []))

-- 1 to 16 schemes
abbrev pub AreFew : List SchemeName → Type 0
AreFew schemes = (1 ≤ length schemes) × (length schemes ≤ 16)

named-range : (ds : Items) → IfOk (named_schemes ds) AreFew
named-range ds = go (are_texts ds) (count_of ds == 0 || nat_lt 16 (count_of ds)) refl (names_after [] ds) refl
  where
    go : (texts wrong : Bool) → (count_of ds == 0 || nat_lt 16 (count_of ds)) ≡ wrong → (o : Option (List SchemeName)) → names_after [] ds ≡ o
        → IfOk (if texts then (if wrong then Err (fault.Range key.Schemes) else given_or (fault.SchemeName key.Schemes) Ok o) else Err (fault.Kind key.Schemes)) AreFew
    go false wrong e o f = tt
    go true true e o f = tt
    go true false e None f = tt
    go true false e (Some all) f = let count = names-count [] ds all f in (grind (arith, nat_tests), grind (arith, nat_tests))

pub schemes-range : (d : Data) → IfOk (schemes_of d) AreFew
schemes-range d = given (fault.Kind key.Schemes) named_schemes (as_array d) AreFew named-range
