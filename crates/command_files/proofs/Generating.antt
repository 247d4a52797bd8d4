-- Numbers that words spell in decimal.
use Rattle.std.proofs.Common.{◌≡◌, ◌≢◌, ◌<◌, ◌^◌, ◌∙◌, ℕ, List, Bool, true, false, cond, ◌&&◌, Some, None, Result, Ok, Err, refl, sym, ap, subst, arith}
use Rattle.std.specs.Prelude.{bytes_eq, decimal, nat_lt}
use Rattle.std.specs.Result.{result_ok}
use Rattle.std.specs.Str.Parse.{ParsesUnsigned, digits_value}
use Rattle.std.proofs.lemmas.Bool.{and_parts, lt-ltb, ltb-true}
use Rattle.std.proofs.lemmas.Fmt.{decimal_is_IsNumeral, parse-decimal}
use Rattle.std.proofs.lemmas.Option.{same_Some}
use Rattle.std.proofs.lemmas.Slice.Eq.{bytes_eq-Decides}
use Rattle.command_files.specs.DecimalNumber.{decimal_number}

-- the word is the decimal of no number
number_none : (word : List ℕ) → ((n : ℕ) → n < 2 ^ 64 → decimal n ≢ word) → None ≡ decimal_number word
number_none word none = go (nat_lt value (2 ^ 64) && bytes_eq (decimal value) word) refl
  where
    value : ℕ
    value = digits_value 10 word

    go : (b : Bool) → (nat_lt value (2 ^ 64) && bytes_eq (decimal value) word) ≡ b → None ≡ cond b (Some value) None
    go false is = refl
    go true is =
        let parts = and_parts (nat_lt value (2 ^ 64)) (bytes_eq (decimal value) word) is in
        absurd (none value (ltb-true value (2 ^ 64) parts.0) ((bytes_eq-Decides (decimal value) word).0 parts.1))

-- of a word whose number was read
module _ {E : Type 0} (word : List ℕ) (r : Result ℕ E) (parses : ParsesUnsigned 64 10 word r) where
  small : (n : ℕ) → Some n ≡ result_ok r → n < 2 ^ 64
  small n read = go r parses read
    where
      go : (q : Result ℕ E) → ParsesUnsigned 64 10 word q → Some n ≡ result_ok q → n < 2 ^ 64
      go (Ok x) p is = subst (λ (k : ℕ). k < 2 ^ 64) (sym (same_Some n x is ∙ p.1)) p.0.1
      go (Err e) p is = grind (arith, is)

  read_of : (n : ℕ) → n < 2 ^ 64 → decimal n ≡ word → result_ok r ≡ Some n
  read_of n low is = ap result_ok (parse-decimal 64 n word r low low (sym is) parses)

  -- it is the decimal of the number
  pub same_read : (n : ℕ) → Some n ≡ result_ok r → bytes_eq (decimal n) word ≡ true → Some n ≡ decimal_number word
  same_read n read same =
      let is : decimal n ≡ word = (bytes_eq-Decides (decimal n) word).0 same in
      let value : digits_value 10 word ≡ n = ap (digits_value 10) (sym is) ∙ (decimal_is_IsNumeral n (small n read)).1 in
      rw (value, lt-ltb n (2 ^ 64) (small n read), same) refl

  -- it is not, as where a sign or a zero stands before it
  pub other_read : (n : ℕ) → Some n ≡ result_ok r → bytes_eq (decimal n) word ≡ false → None ≡ decimal_number word
  other_read n read other =
      number_none word (λ m low is. grind (arith, sym other ∙ (bytes_eq-Decides (decimal n) word).1 (ap decimal (same_Some n m (read ∙ read_of m low is)) ∙ is)))

  -- no number was read
  pub none_read : None ≡ result_ok r → None ≡ decimal_number word
  none_read none = number_none word (λ m low is. grind (arith, none ∙ read_of m low is))
