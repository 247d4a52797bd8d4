-- Numbers and names as the fields of a row: what they read back as, and that they need no quotes.
use Rattle.std.proofs.Common.{ℕ, ◌≤◌, ◌<◌, ◌^◌, ◌≡◌, refl, List, [], ◌∷◌, length, decimal, Bool, true, false, ◌&&◌, nat_le, arith, rules}
use Rattle.std.specs.List.{list_all, list_any}
use Rattle.std.proofs.lemmas.Bool.{and_from, and_parts}
use Rattle.std.proofs.lemmas.Bool.Decides.{nat_tests}
use Rattle.std.proofs.lemmas.Fmt.{digits_decimal, digits_value-decimal, length-decimal-le, decimal_nonempty}
use Rattle.std.proofs.lemmas.Str.Parse.{IsNumeralModel, numerals_by_fold}
use Rattle.csv.specs.Writing.{default_writer, needs_byte}
use Rattle.te_model.specs.Network.{is_name, is_name_byte}
use Rattle.csv_records.specs.Field.{digits_from, is_digit, is_number, is_number_within}

own : IsNumeralModel (λ ds. list_all is_digit ds ≡ true) (digits_from 0)
own = numerals_by_fold _ (search rules) digits_from (search rules)

-- a number reads back
pub decimal-number : (n : ℕ) → n < 10 ^ 10 → (is_number (decimal n) ≡ true) × (digits_from 0 (decimal n) ≡ n)
decimal-number n low =
    let small : n < 2 ^ 64 = omega arith in
    let some = decimal_nonempty n small in
    let few = length-decimal-le 10 n (omega arith) low small in (
      and_from _ (list_all is_digit (decimal n))
          (and_from (nat_le 1 (length (decimal n))) (nat_le (length (decimal n)) 10) (grind (arith, nat_tests)) (grind (arith, nat_tests)))
          (digits_decimal own n small),
      digits_value-decimal own n small,
    )

pub decimal-within : (n : ℕ) → n ≤ 2 ^ 32 → is_number_within 0 (2 ^ 32) (decimal n) ≡ true
decimal-within n low =
    let (number, value) = decimal-number n (omega arith) in
    and_from _ (nat_le (digits_from 0 (decimal n)) (2 ^ 32))
    (and_from (is_number (decimal n)) (nat_le 0 (digits_from 0 (decimal n))) number (grind (arith, nat_tests)))
    (grind (arith, nat_tests))

-- a field without a comma, a quote or a line's end
abbrev pub IsPlain : List ℕ → Type 0
IsPlain field = list_any (needs_byte default_writer) field ≡ false

plain-all : (test : ℕ → Bool) → ((b : ℕ) → test b ≡ true → needs_byte default_writer b ≡ false) → (xs : List ℕ) → list_all test xs ≡ true → IsPlain xs
plain-all test each [] all = refl
plain-all test each (x ∷ xs) all = let (first, rest) = and_parts (test x) (list_all test xs) all in rw (each x first, plain-all test each xs rest) refl

plain-digit : (b : ℕ) → is_digit b ≡ true → needs_byte default_writer b ≡ false
plain-digit b h = grind (arith, nat_tests)

plain-name : (b : ℕ) → is_name_byte b ≡ true → needs_byte default_writer b ≡ false
plain-name b h = grind (arith, nat_tests)

pub decimal-plain : (n : ℕ) → n < 2 ^ 64 → IsPlain (decimal n)
decimal-plain n small = plain-all is_digit plain-digit (decimal n) (digits_decimal own n small)

pub name-plain : (name : List ℕ) → is_name name ≡ true → IsPlain name
name-plain name h = plain-all is_name_byte plain-name name (and_parts (nat_le 1 (length name) && nat_le (length name) 32) (list_all is_name_byte name) h).1
