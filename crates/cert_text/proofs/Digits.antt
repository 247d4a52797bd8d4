-- Reading a number digit by digit.
use Rattle.std.specs.List.{list_all}
use Rattle.std.proofs.Common.{◌==◌, if◌then◌else◌, ◌&&◌, ◌++◌, length-append, ◌≡◌, ◌≢◌, ℕ, ◌+◌, ◌-◌, ◌*◌, ◌^◌, ◌<◌, ◌≤◌, Bool, true, false, cond, List, [], ◌∷◌, length, drop, Some, None, Result, Ok, Err, refl, sym, ap, arith, eqb, ltb}
use Rattle.std.specs.Prelude.{slice_get}
use Rattle.te_model.specs.Network.{is_name_byte}
use Rattle.std.specs.Char.{is_ascii_digit}
use Rattle.std.proofs.Math.Utf8.{encode}
use Rattle.std.proofs.lemmas.Bool.{ltb-true, lt-ltb}
use Rattle.std.proofs.lemmas.Bool.Decides.{nat_tests}
use Rattle.std.proofs.lemmas.Str.{encode_ascii}
use Rattle.cert_text.specs.Place.{Place, place}
use Rattle.cert_text.specs.Reading.{read_digits, name_from}

-- what stands first in a list
first_is : (bs : List ℕ) (b : ℕ) → Some b ≡ slice_get bs 0 → bs ≡ b ∷ drop 1 bs
first_is [] b e = absurd cc
first_is (x ∷ xs) b e = let same : b ≡ x = cc in ap (λ y. y ∷ xs) (sym same)

none_is : (bs : List ℕ) → None ≡ slice_get bs 0 → bs ≡ []
none_is [] e = refl
none_is (x ∷ xs) e = absurd cc

-- no byte is left
pub nothing_left : (k : ℕ) (bs : List ℕ) → None ≡ slice_get bs 0 → ◌≡◌ {A = Result Place ℕ} (if length bs == 0 then Ok (place k bs) else Err k) (Ok (place k bs))
nothing_left k bs none = rw (none_is bs none) refl

refused : (zero fits : Bool) (k : ℕ) (more : Result (ℕ × Place) ℕ) → ¬ ((zero ≡ false) × (fits ≡ true)) → cond zero (Err k) (cond fits more (Err k)) ≡ Err k
refused true fits k more h = refl
refused false true k more h = absurd (h (refl, refl))
refused false false k more h = refl

-- no digit stands after a zero that leads, or after as many as are in range
pub digits_over : (k v : ℕ) (bs : List ℕ) (b : ℕ) → Some b ≡ slice_get bs 0 → is_ascii_digit b ≡ true → ¬ ((0 < v) × (v * 10 + (b - 48) < 2 ^ 64)) → read_digits k v bs ≡ Err k
digits_over k v bs b first digit over =
    let none : ¬ ((eqb v 0 ≡ false) × (ltb (v * 10 + (b - 48)) (2 ^ 64) ≡ true)) = λ p. over (grind (arith, nat_tests), ltb-true _ _ p.1) in
    rw (first_is bs b first, digit) (refused (eqb v 0) (ltb (v * 10 + (b - 48)) (2 ^ 64)) k (read_digits k (v * 10 + (b - 48)) (drop 1 bs)) none)

-- a digit more
pub digits_more : (k v : ℕ) (bs : List ℕ) (b : ℕ) → Some b ≡ slice_get bs 0 → is_ascii_digit b ≡ true → (0 < v) × (v * 10 + (b - 48) < 2 ^ 64) → read_digits k v bs ≡ read_digits k (v * 10 + (b - 48)) (drop 1 bs)
digits_more k v bs b first digit fits =
    let other : eqb v 0 ≡ false = grind (arith, nat_tests) in
    let within : ltb (v * 10 + (b - 48)) (2 ^ 64) ≡ true = lt-ltb _ _ fits.1 in
    rw (first_is bs b first, digit, other, within) refl

pub digits_stop : (k v : ℕ) (bs : List ℕ) (b : ℕ) → Some b ≡ slice_get bs 0 → is_ascii_digit b ≡ false → read_digits k v bs ≡ Ok (v, place k bs)
digits_stop k v bs b first digit = rw (first_is bs b first, digit) refl

pub digits_end : (k v : ℕ) (bs : List ℕ) → None ≡ slice_get bs 0 → read_digits k v bs ≡ Ok (v, place k bs)
digits_end k v bs none = rw (none_is bs none) refl

pub name_long : (k : ℕ) (front bs : List ℕ) (b : ℕ) → Some b ≡ slice_get bs 0 → is_name_byte b ≡ true → length front ≡ 32 → name_from k front bs ≡ Err k
name_long k front bs b first letter full = rw (first_is bs b first, letter, full) refl

-- a letter more
pub name_more : (k : ℕ) (front bs : List ℕ) (b : ℕ) → Some b ≡ slice_get bs 0 → is_name_byte b ≡ true → length front ≢ 32 → name_from k front bs ≡ name_from k (front ++ b ∷ []) (drop 1 bs)
name_more k front bs b first letter other =
    let room : eqb (length front) 32 ≡ false = grind (arith, nat_tests) in
    rw (first_is bs b first, letter, room) refl

-- a byte of a name is its own encoding
pub name_encoded : (b : ℕ) → is_name_byte b ≡ true → encode b ≡ b ∷ []
name_encoded b letter = encode_ascii b (grind (arith, nat_tests))

pub name_stop : (k : ℕ) (front bs : List ℕ) (b : ℕ) → Some b ≡ slice_get bs 0 → is_name_byte b ≡ false → name_from k front bs ≡ Ok (front, place k bs)
name_stop k front bs b first other = rw (first_is bs b first, other) refl

pub name_end : (k : ℕ) (front bs : List ℕ) → None ≡ slice_get bs 0 → name_from k front bs ≡ Ok (front, place k bs)
name_end k front bs none = rw (none_is bs none) refl

pub letters_more : (xs : List ℕ) (b : ℕ) → list_all is_name_byte xs ≡ true → is_name_byte b ≡ true → list_all is_name_byte (xs ++ b ∷ []) ≡ true
letters_more [] b all here = rw here refl
letters_more (x ∷ xs) b all here = both (is_name_byte x) (list_all is_name_byte xs) all (λ rest. letters_more xs b rest here)
  where
    both : (first rest : Bool) → first && rest ≡ true → (rest ≡ true → list_all is_name_byte (xs ++ b ∷ []) ≡ true) → first && list_all is_name_byte (xs ++ b ∷ []) ≡ true
    both false rest e more = absurd cc
    both true rest e more = more e

pub longer : (xs : List ℕ) (b : ℕ) → length xs ≤ 32 → ¬ (length xs ≡ 32) → length (xs ++ b ∷ []) ≤ 32
longer xs b short other = simp length-append (omega arith)
