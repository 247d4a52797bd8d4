-- Numbers and names: what is read is what is spelled, and what is spelled is read.
use Rattle.std.proofs.Common.{◌≡◌, ◌≢◌, ℕ, ◌+◌, ◌-◌, ◌*◌, ◌^◌, ◌<◌, ◌≤◌, Bool, true, false, ◌&&◌, cond, List, [], ◌∷◌, ◌++◌, length, get_or, Result, Ok, Err, refl, sym, ap, subst, ◌∙◌, arith, rules, eqb, ltb, inl, inr, append_assoc, zero-add}
use Rattle.std.proofs.lemmas.List.{append-nil, length-append}
use Rattle.std.specs.Prelude.{nat_le}
use Rattle.std.specs.Char.{is_ascii_digit}
use Rattle.std.specs.Fmt.{decimal}
use Rattle.std.specs.Str.{all_ascii_digits}
use Rattle.std.specs.List.{list_all}
use Rattle.std.proofs.lemmas.Bool.{ltb-true, lt-ltb, eqb-false, cases_lt, leb-true, le-leb, and_parts}
use Rattle.std.proofs.lemmas.Bool.Decides.{nat_tests}
use Rattle.std.proofs.lemmas.Str.Parse.{IsNumeralModel, numerals_by_fold}
use Rattle.std.proofs.lemmas.Fmt.{digits_decimal, digits_value-decimal, decimal-digits_value, decimal_nonempty, first_decimal, decimal_digit}
use Rattle.te_model.specs.Digits.{digits_from}
use Rattle.te_model.specs.Network.{is_name_byte, is_name}
use Rattle.cert_text.specs.Place.{Place, place, ◌>>=◌}
use Rattle.cert_text.specs.Reading.{read_digits, number_from, read_number, name_from, read_name}

pub own : IsNumeralModel (λ ds. all_ascii_digits ds ≡ true) (digits_from 0)
own = numerals_by_fold _ (search rules) digits_from (search rules)

grows : (n : ℕ) (ds : List ℕ) → n ≤ digits_from n ds
grows n [] = omega arith
grows n (c ∷ cs) = let more = grows (n * 10 + (c - 48)) cs in omega arith

-- whether the bytes begin with one that passes
abbrev pub begins : (ℕ → Bool) → List ℕ → Bool
begins test [] = false
begins test (b ∷ bs) = test b

abbrev pub begins_with_digit : List ℕ → Bool
begins_with_digit bs = begins is_ascii_digit bs

pub digits_again : (ds : List ℕ) (k v : ℕ) (r : List ℕ) → all_ascii_digits ds ≡ true → (v ≡ 0 → ds ≡ []) → digits_from v ds < 2 ^ 64 → begins_with_digit r ≡ false
    → read_digits k v (ds ++ r) ≡ Ok (digits_from v ds, place k r)
digits_again [] k v [] all lead small stop = refl
digits_again [] k v (b ∷ bs) all lead small stop = rw stop refl
digits_again (c ∷ cs) k v r all lead small stop =
    let parts = and_parts (is_ascii_digit c) (all_ascii_digits cs) all in
    let nonzero : v ≢ 0 = λ e. absurd (let no : c ∷ cs ≡ [] = lead e in cc) in
    let tested : eqb v 0 ≡ false = grind (arith, nat_tests) in
    let w = v * 10 + (c - 48) in
    let below : w < 2 ^ 64 = let g = grows w cs in omega arith in
    let fits : ltb (v * 10 + (c - 48)) (2 ^ 64) ≡ true = lt-ltb _ _ below in
    rw (parts.0, tested, fits) (digits_again cs k w r parts.1 (λ e. absurd (omega arith)) small stop)

-- digits that were read, and what stands after them
pub record Digits (v : ℕ) (bs : List ℕ) (n : ℕ) (q : Place) (ds : List ℕ) : Type 0 where
  pub all : all_ascii_digits ds ≡ true
  pub parts : bs ≡ ds ++ q.rest
  pub value : n ≡ digits_from v ds
  pub small : n < 2 ^ 64
  pub lead : v ≡ 0 → ds ≡ []
  pub stop : begins_with_digit q.rest ≡ false

abbrev done : {A : Type 0} → A → Result A ℕ
done x = Ok x

pub ok_is : {A : Type 0} (x y : A) → done x ≡ done y → x ≡ y
ok_is x y e = cc

-- no digit stands next
ended : (bs : List ℕ) (k v n : ℕ) (q : Place) → v < 2 ^ 64 → begins_with_digit bs ≡ false → done {A = ℕ × Place} (v, place k bs) ≡ done {A = ℕ × Place} (n, q) → (ds : List ℕ) × Digits v bs n q ds
ended bs k v n q small stop e =
    subst (λ (y : ℕ × Place). (ds : List ℕ) × Digits v bs y.0 y.1 ds) (ok_is (v, place k bs) (n, q) e)
    ([], record { all = refl; parts = refl; value = refl; small = small; lead = λ z. refl; stop = stop })

taken_step : (b : ℕ) (bs : List ℕ) (k v n : ℕ) (q : Place) (t z f : Bool) → v < 2 ^ 64 → is_ascii_digit b ≡ t → eqb v 0 ≡ z → ltb (v * 10 + (b - 48)) (2 ^ 64) ≡ f
    → cond t (cond z (Err k) (cond f (read_digits k (v * 10 + (b - 48)) bs) (Err k))) (Ok (v, place k (b ∷ bs))) ≡ Ok (n, q)
    → (v * 10 + (b - 48) < 2 ^ 64 → read_digits k (v * 10 + (b - 48)) bs ≡ Ok (n, q) → (ds : List ℕ) × Digits (v * 10 + (b - 48)) bs n q ds)
    → (ds : List ℕ) × Digits v (b ∷ bs) n q ds
taken_step b bs k v n q true true f small digit nought fits e more = absurd cc
taken_step b bs k v n q true false false small digit nought fits e more = absurd cc
taken_step b bs k v n q true false true small digit nought fits e more =
    let rest = more (ltb-true _ _ fits) e in (
      b ∷ rest.0,
      record {
        all = rw digit rest.1.all;
        parts = ap (λ (x : List ℕ). b ∷ x) rest.1.parts;
        value = rest.1.value;
        small = rest.1.small;
        lead = λ none. absurd (eqb-false _ _ nought none);
        stop = rest.1.stop;
      },
    )
taken_step b bs k v n q false z f small digit nought fits e more = ended (b ∷ bs) k v n q small digit e

pub digits_taken : (bs : List ℕ) (k v n : ℕ) (q : Place) → v < 2 ^ 64 → read_digits k v bs ≡ Ok (n, q) → (ds : List ℕ) × Digits v bs n q ds
digits_taken [] k v n q small e = ended [] k v n q small refl e
digits_taken (b ∷ bs) k v n q small e =
    taken_step b bs k v n q (is_ascii_digit b) (eqb v 0) (ltb (v * 10 + (b - 48)) (2 ^ 64)) small refl refl refl e
    (λ fits h. digits_taken bs k (v * 10 + (b - 48)) n q fits h)

-- what a number's reader took
pub record TakesNumber (p : Place) (n : ℕ) (q : Place) : Type 0 where
  pub parts : p.rest ≡ decimal n ++ q.rest
  pub small : n < 2 ^ 64
  pub stop : begins_with_digit q.rest ≡ false

first_taken : (b : ℕ) (bs : List ℕ) (k n : ℕ) (q : Place) (t : Bool) → is_ascii_digit b ≡ t → cond t (read_digits k (b - 48) bs) (Err k) ≡ Ok (n, q)
    → TakesNumber (place k (b ∷ bs)) n q
first_taken b bs k n q false digit e = absurd cc
first_taken b bs k n q true digit e =
    let low : b - 48 < 10 = grind (arith, nat_tests) in
    let d = digits_taken bs k (b - 48) n q (omega arith) e in
    let all : all_ascii_digits (b ∷ d.0) ≡ true = rw digit d.1.all in
    let value : digits_from 0 (b ∷ d.0) ≡ n = ap (λ (x : ℕ). digits_from x d.0) (zero-add (b - 48)) ∙ sym d.1.value in
    let lead : get_or (b ∷ d.0) 0 0 ≡ 48 → length (b ∷ d.0) ≡ 1 = λ z. let none : d.0 ≡ [] = d.1.lead (omega arith) in rw none refl in
    let spelled : decimal (digits_from 0 (b ∷ d.0)) ≡ b ∷ d.0 = decimal-digits_value own (b ∷ d.0) all (omega arith) lead (let h = d.1.small in omega (arith, value)) in
    let here : (b ∷ bs) ≡ (b ∷ d.0) ++ q.rest = ap (λ (x : List ℕ). b ∷ x) d.1.parts in
    record { parts = here ∙ ap (λ (x : List ℕ). x ++ q.rest) (sym spelled ∙ ap decimal value); small = d.1.small; stop = d.1.stop }

rest_taken : (bs : List ℕ) (k n : ℕ) (q : Place) → number_from k bs ≡ Ok (n, q) → TakesNumber (place k bs) n q
rest_taken [] k n q e = absurd cc
rest_taken (b ∷ bs) k n q e = first_taken b bs k n q (is_ascii_digit b) refl e

pub number_takes : (p : Place) (n : ℕ) (q : Place) → read_number p ≡ Ok (n, q) → TakesNumber p n q
unfolding read_number
number_takes p n q e = rest_taken p.rest p.line n q e

-- the digits of a number, read again
again_from : (ds : List ℕ) (k n : ℕ) (r : List ℕ) → all_ascii_digits ds ≡ true → digits_from 0 ds ≡ n → 0 < length ds → n < 2 ^ 64
    → (0 < n → 48 < get_or ds 0 0) → (n ≡ 0 → length ds ≡ 1) → begins_with_digit r ≡ false → number_from k (ds ++ r) ≡ Ok (n, place k r)
again_from [] k n r all value some small lead one stop = absurd (omega arith)
again_from (b ∷ bs) k n r all value some small lead one stop =
    let parts = and_parts (is_ascii_digit b) (all_ascii_digits bs) all in
    let alone : b - 48 ≡ 0 → bs ≡ [] = λ z. only bs (elim (cases_lt 0 n) [ inl pos ↦ absurd (let h = lead pos in omega arith) | inr none ↦ one (omega arith) ]) in
    let same : digits_from (b - 48) bs ≡ n = ap (λ (x : ℕ). digits_from x bs) (sym (zero-add (b - 48))) ∙ value in
    let fits : digits_from (b - 48) bs < 2 ^ 64 = omega (arith, same) in
    rw parts.0 (digits_again bs k (b - 48) r parts.1 alone fits stop ∙ ap (λ (x : ℕ). Ok (x, place k r)) same)
  where
    only : (bs : List ℕ) → length (b ∷ bs) ≡ 1 → bs ≡ []
    only [] e = refl
    only (x ∷ xs) e = absurd (omega arith)

pub number_again : (k n : ℕ) (r : List ℕ) → n < 2 ^ 64 → begins_with_digit r ≡ false → read_number (place k (decimal n ++ r)) ≡ Ok (n, place k r)
unfolding read_number
number_again k n r small stop =
    again_from (decimal n) k n r (digits_decimal own n small) (digits_value-decimal own n small) (decimal_nonempty n small) small
    (λ pos. first_decimal n pos small) (λ none. ap length (ap decimal none ∙ decimal_digit 0 (omega arith))) stop

-- ---- names

abbrev pub begins_with_letter : List ℕ → Bool
begins_with_letter bs = begins is_name_byte bs

pub record Letters (front bs name : List ℕ) (q : Place) (t : List ℕ) : Type 0 where
  pub all : list_all is_name_byte t ≡ true
  pub parts : bs ≡ t ++ q.rest
  pub name_is : name ≡ front ++ t
  pub short : length name ≤ 32
  pub stop : begins_with_letter q.rest ≡ false

no_letter : (bs : List ℕ) (k : ℕ) (front name : List ℕ) (q : Place) → length front ≤ 32 → begins_with_letter bs ≡ false → done {A = List ℕ × Place} (front, place k bs) ≡ done {A = List ℕ × Place} (name, q)
    → (t : List ℕ) × Letters front bs name q t
no_letter bs k front name q short stop e =
    subst (λ (y : List ℕ × Place). (t : List ℕ) × Letters front bs y.0 y.1 t) (ok_is {A = List ℕ × Place} (front, place k bs) (name, q) e)
    ([], record { all = refl; parts = refl; name_is = sym (append-nil front); short = short; stop = stop })

letter_step : (b : ℕ) (bs : List ℕ) (k : ℕ) (front name : List ℕ) (q : Place) (t f : Bool) → length front ≤ 32 → is_name_byte b ≡ t → eqb (length front) 32 ≡ f
    → cond t (cond f (Err k) (name_from k (front ++ b ∷ []) bs)) (Ok (front, place k (b ∷ bs))) ≡ Ok (name, q)
    → (length (front ++ b ∷ []) ≤ 32 → name_from k (front ++ b ∷ []) bs ≡ Ok (name, q) → (t : List ℕ) × Letters (front ++ b ∷ []) bs name q t)
    → (t : List ℕ) × Letters front (b ∷ bs) name q t
letter_step b bs k front name q true true short letter full e more = absurd cc
letter_step b bs k front name q true false short letter full e more =
    let room : length (front ++ b ∷ []) ≤ 32 = omega (arith, length-append front (b ∷ []), eqb-false _ _ full) in
    let rest = more room e in (
      b ∷ rest.0,
      record {
        all = rw letter rest.1.all;
        parts = ap (λ (x : List ℕ). b ∷ x) rest.1.parts;
        name_is = rest.1.name_is ∙ append_assoc front (b ∷ []) rest.0;
        short = rest.1.short;
        stop = rest.1.stop;
      },
    )
letter_step b bs k front name q false f short letter full e more = no_letter (b ∷ bs) k front name q short letter e

pub letters_taken : (bs : List ℕ) (k : ℕ) (front name : List ℕ) (q : Place) → length front ≤ 32 → name_from k front bs ≡ Ok (name, q) → (t : List ℕ) × Letters front bs name q t
letters_taken [] k front name q short e = no_letter [] k front name q short refl e
letters_taken (b ∷ bs) k front name q short e =
    letter_step b bs k front name q (is_name_byte b) (eqb (length front) 32) short refl refl e
    (λ room h. letters_taken bs k (front ++ b ∷ []) name q room h)

pub letters_again : (t : List ℕ) (k : ℕ) (front r : List ℕ) → list_all is_name_byte t ≡ true → length front + length t ≤ 32 → begins_with_letter r ≡ false
    → name_from k front (t ++ r) ≡ Ok (front ++ t, place k r)
letters_again [] k front [] all short stop = ap (λ (x : List ℕ). Ok (x, place k [])) (sym (append-nil front))
letters_again [] k front (b ∷ bs) all short stop = rw stop (ap (λ (x : List ℕ). Ok (x, place k (b ∷ bs))) (sym (append-nil front)))
letters_again (c ∷ cs) k front r all short stop =
    let parts = and_parts (is_name_byte c) (list_all is_name_byte cs) all in
    let room : eqb (length front) 32 ≡ false = grind (arith, nat_tests) in
    let fits : length (front ++ c ∷ []) + length cs ≤ 32 = omega (arith, length-append front (c ∷ [])) in
    rw (parts.0, room) (letters_again cs k (front ++ c ∷ []) r parts.1 fits stop ∙ ap (λ (x : List ℕ). Ok (x, place k r)) (append_assoc front (c ∷ []) cs))

-- the value of a step that did not fail
pub bind_ok : {A B : Type 0} (r : Result A ℕ) (f : A → Result B ℕ) (y : B) → (r >>= f) ≡ Ok y → (x : A) × (r ≡ Ok x) × (f x ≡ Ok y)
bind_ok (Ok x) f y e = (x, refl, e)
bind_ok (Err d) f y e = absurd cc

pub unless_ok : {A : Type 0} (b : Bool) (d : ℕ) (x y : A) → cond b (Err d) (Ok x) ≡ Ok y → (b ≡ false) × (x ≡ y)
unless_ok true d x y e = absurd cc
unless_ok false d x y e = (refl, cc)

pub where_ok : {A : Type 0} (b : Bool) (d : ℕ) (x y : A) → cond b (Ok x) (Err d) ≡ Ok y → (b ≡ true) × (x ≡ y)
where_ok true d x y e = (refl, cc)
where_ok false d x y e = absurd cc

-- what a name's reader took
pub record TakesName (p : Place) (name : List ℕ) (q : Place) : Type 0 where
  pub parts : p.rest ≡ name ++ q.rest
  pub good : is_name name ≡ true
  pub stop : begins_with_letter q.rest ≡ false

pub name_takes : (p : Place) (name : List ℕ) (q : Place) → read_name p ≡ Ok (name, q) → TakesName p name q
unfolding read_name
name_takes p name q e =
    let a = bind_ok (name_from p.line [] p.rest) (λ x. cond (eqb (length x.0) 0) (Err x.1.line) (Ok x)) (name, q) e in
    let g = unless_ok (eqb (length a.0.0) 0) a.0.1.line a.0 (name, q) a.2 in
    let some : eqb (length name) 0 ≡ false = subst (λ (y : List ℕ × Place). eqb (length y.0) 0 ≡ false) g.1 g.0 in
    let t = letters_taken p.rest p.line [] name q (omega arith) (a.1 ∙ ap (λ (y : List ℕ × Place). done y) g.1) in
    let same : name ≡ t.0 = t.1.name_is in
    let all : list_all is_name_byte name ≡ true = rw same t.1.all in
    let low : nat_le 1 (length name) ≡ true = grind (arith, nat_tests) in
    let high : nat_le (length name) 32 ≡ true = le-leb _ _ t.1.short in
    record { parts = t.1.parts ∙ ap (λ (x : List ℕ). x ++ q.rest) (sym same); good = rw (low, high, all) refl; stop = t.1.stop }

pub name_again : (k : ℕ) (name r : List ℕ) → is_name name ≡ true → begins_with_letter r ≡ false → read_name (place k (name ++ r)) ≡ Ok (name, place k r)
unfolding read_name
name_again k name r ok stop =
    let a = and_parts (nat_le 1 (length name) && nat_le (length name) 32) (list_all is_name_byte name) ok in
    let b = and_parts (nat_le 1 (length name)) (nat_le (length name) 32) a.0 in
    let low = leb-true 1 (length name) b.0 in
    let high = leb-true (length name) 32 b.1 in
    let some : eqb (length name) 0 ≡ false = grind (arith, nat_tests) in
    rw (letters_again name k [] r a.1 (omega arith) stop, some) refl
