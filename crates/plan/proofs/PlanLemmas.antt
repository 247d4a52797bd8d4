-- The text of a plan, and the lists in it.
use Rattle.std.proofs.Common.{ℕ, suc, ◌+◌, ◌≤◌, ◌<◌, ◌≡◌, ◌≢◌, ◌⊎◌, ◌∙◌, refl, sym, ap, inl, inr, List, [], ◌∷◌, ◌++◌, length, Bool, true, false, ◌||◌, ◌==◌, nat_lt, Option, Some, None, option_and_then, get_or, drop, drop-cons, add-one, Result, Ok, Err, IsUtf8, arith, if◌then◌else◌}
use Rattle.std.specs.Str.Lossy.{utf8_valid_len}
use Rattle.std.proofs.lemmas.List.{drop_all}
use Rattle.std.proofs.lemmas.Str.{utf8_valid_len-IsUtf8}
use Rattle.std.proofs.lemmas.Bool.Decides.{nat_tests}
use Rattle.serde_json.specs.Data.{Data}
use Rattle.serde_json.specs.Find.{as_array, as_str, get}
use Rattle.serde_json.specs.Read.{read}
use Rattle.serde_json.specs.View.{view, items_view}
use Rattle.serde_json.specs.declared.value.Value.{Value}
use Rattle.plan.specs.declared.scheme_name.SchemeName.{SchemeName}
use Rattle.plan.specs.declared.key.Key.TheVariants as key
use Rattle.plan.specs.declared.fault.PlanFault.{PlanFault}
use Rattle.plan.specs.declared.fault.PlanFault.TheVariants as fault
use Rattle.plan.specs.Values.{given_or, fraction_of, margin_of, are_texts, count_of, names_after, named_schemes, schemes_of}
use Rattle.plan.specs.Words.{scheme_named}
use Rattle.plan.specs.Plan.{json_of, optional}

same-length : (n m : ℕ) → n ≡ m → (n == m) ≡ true
same-length n m e = grind (arith, nat_tests)

-- the value of bytes that are text
pub json-of-text : (bytes : List ℕ) → IsUtf8 bytes → (d : Data) → read bytes ≡ Some d → json_of bytes ≡ Some d
json-of-text bytes u d e = rw (same-length (utf8_valid_len bytes) (length bytes) (utf8_valid_len-IsUtf8 bytes u)) e

no-fraction : (xs : List Value) → length xs ≢ 2 → ◌≡◌ {A = Result (ℕ × ℕ) PlanFault} (Err (fault.Kind key.Margin)) (fraction_of (items_view xs))
no-fraction [] n = refl
no-fraction (a ∷ []) n = refl
no-fraction (a ∷ b ∷ []) n = absurd (n refl)
no-fraction (a ∷ b ∷ c ∷ xs) n = refl

-- a list that is no pair is no margin
pub no-margin : (d : Data) (xs : List Value) → Some (items_view xs) ≡ as_array d → length xs ≢ 2 → ◌≡◌ {A = Result (ℕ × ℕ) PlanFault} (Err (fault.Kind key.Margin)) (margin_of d)
no-margin d xs e n = no-fraction xs n ∙ ap (given_or (fault.Kind key.Margin) fraction_of) e

count-items : (xs : List Value) → count_of (items_view xs) ≡ length xs
count-items [] = refl
count-items (x ∷ xs) = ap (λ (n : ℕ). suc n) (count-items xs)

out-of-range : (texts : Bool) (n : ℕ) (o : Option (List SchemeName)) → texts ≡ true → (n == 0 || nat_lt 16 n) ≡ true
    → (if texts then (if n == 0 || nat_lt 16 n then Err (fault.Range key.Schemes) else given_or (fault.SchemeName key.Schemes) Ok o) else Err (fault.Kind key.Schemes)) ≡ Err (fault.Range key.Schemes)
out-of-range texts n o e f = rw (e, f) refl

-- no scheme, or too many
pub wrong-count : (d : Data) (xs : List Value) → Some (items_view xs) ≡ as_array d → are_texts (items_view xs) ≡ true → (length xs ≡ 0) ⊎ (16 < length xs)
    → schemes_of d ≡ Err (fault.Range key.Schemes)
wrong-count d xs e texts count =
    let n = count-items xs in
    let wrong : (count_of (items_view xs) == 0 || nat_lt 16 (count_of (items_view xs))) ≡ true =
    elim count [ inl none ↦ grind (arith, nat_tests) | inr many ↦ grind (arith, nat_tests) ] in
    sym (ap (given_or (fault.Kind key.Schemes) named_schemes) e)
    ∙ out-of-range (are_texts (items_view xs)) (count_of (items_view xs)) (names_after [] (items_view xs)) texts wrong

within-range : (texts : Bool) (n : ℕ) (o : Option (List SchemeName)) → texts ≡ true → (n == 0 || nat_lt 16 n) ≡ false
    → (if texts then (if n == 0 || nat_lt 16 n then Err (fault.Range key.Schemes) else given_or (fault.SchemeName key.Schemes) Ok o) else Err (fault.Kind key.Schemes)) ≡ given_or (fault.SchemeName key.Schemes) Ok o
within-range texts n o e f = rw (e, f) refl

-- one to sixteen texts, of which the names decide
pub right-count : (d : Data) (xs : List Value) (o : Option (List SchemeName)) → Some (items_view xs) ≡ as_array d → are_texts (items_view xs) ≡ true → 1 ≤ length xs → length xs ≤ 16
    → names_after [] (items_view xs) ≡ o → schemes_of d ≡ given_or (fault.SchemeName key.Schemes) Ok o
right-count d xs o e texts some few named =
    let n = count-items xs in
    let right : (count_of (items_view xs) == 0 || nat_lt 16 (count_of (items_view xs))) ≡ false = grind (arith, nat_tests) in
    sym (ap (given_or (fault.Kind key.Schemes) named_schemes) e)
    ∙ within-range (are_texts (items_view xs)) (count_of (items_view xs)) (names_after [] (items_view xs)) texts right
    ∙ ap (given_or (fault.SchemeName key.Schemes) Ok) named

-- the next value names no scheme
pub next-unnamed : (names : List SchemeName) (xs : List Value) (i : ℕ) (x : Value) → i < length xs → x ≡ get_or xs i x → option_and_then scheme_named (as_str (view x)) ≡ None
    → names_after names (items_view (drop i xs)) ≡ None
next-unnamed names xs i x low is bad = rw (drop-cons xs i x, ← is, bad) refl

-- the next value names a scheme
pub next-named : (names : List SchemeName) (xs : List Value) (i : ℕ) (x : Value) (s : SchemeName) → i < length xs → x ≡ get_or xs i x → option_and_then scheme_named (as_str (view x)) ≡ Some s
    → names_after names (items_view (drop i xs)) ≡ names_after (names ++ s ∷ []) (items_view (drop (i + 1) xs))
next-named names xs i x s low is good = rw (add-one, drop-cons xs i x, ← is, good) refl

-- no value is left
pub all-named : (names : List SchemeName) (xs : List Value) (i : ℕ) → length xs ≤ i → names_after names (items_view (drop i xs)) ≡ Some names
all-named names xs i past = rw (drop_all i xs past) refl

-- what the value of a key says, where there is one
pub there : {A : Type 0} (default : A) (reading : Data → Result A PlanFault) (word word' : List ℕ) (d v : Data) (x : A) → word ≡ word' → Some v ≡ get word d → reading v ≡ Ok x → optional default reading (get word' d) ≡ Ok x
there default reading word word' d v x same found is = sym (ap (optional default reading) (found ∙ ap (λ (w : List ℕ). get w d) same)) ∙ is

-- and the default, where there is none
pub absent : {A : Type 0} (default : A) (reading : Data → Result A PlanFault) (word word' : List ℕ) (d : Data) → word ≡ word' → None ≡ get word d → optional default reading (get word' d) ≡ Ok default
absent default reading word word' d same none = sym (ap (optional default reading) (none ∙ ap (λ (w : List ℕ). get w d) same))
