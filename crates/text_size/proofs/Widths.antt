-- How many bytes numbers and lines take, each with the space or line feed beside it.
use Rattle.std.proofs.Common.{◌≡◌, ℕ, zero, suc, ◌+◌, ◌*◌, ◌/◌, ◌^◌, ◌<◌, ◌≤◌, Bool, true, false, cond, List, [], ◌∷◌, ◌++◌, length, map, arith, refl, nat_lt, length-append}
use Rattle.std.specs.Prelude.{All, decimal, flat_map}
use Rattle.std.proofs.Math.Nat.{pow-suc}
use Rattle.std.proofs.lemmas.Bool.{ltb-true}
use Rattle.std.proofs.lemmas.Nat.{mul-le}
use Rattle.std.proofs.lemmas.Fmt.{length-decimal-le}
use Rattle.std.proofs.lemmas.List.Elements.{All-head, All-tail}
use Rattle.te_model.specs.declared.certificate.Certificate.{Certificate}
use Rattle.te_model.specs.Text.{numbers, words, certificate_lines, text}

-- the bytes of a number and of what stands beside it
abbrev pub width : ℕ → ℕ
width x = length (decimal x) + 1

abbrev pub widths : List ℕ → ℕ
widths [] = 0
widths (x ∷ xs) = width x + widths xs

-- the bytes of lines
abbrev pub size : List (List ℕ) → ℕ
size [] = 0
size (line ∷ lines) = length line + 1 + size lines

-- how many decimal digits a number has, of at most one more than the first argument says
unfoldable pub digit_count : ℕ → ℕ → ℕ
digit_count zero n = 1
digit_count (suc k) n = cond (nat_lt n 10) 1 (suc (digit_count k (n / 10)))

-- the bytes that a number up to this one takes at most, with what stands beside it
abbrev pub widest : ℕ → ℕ
widest most = digit_count 20 most + 1

-- an amount of at most 2 ^ 32 takes eleven bytes with what stands beside it
pub widest_of_amount : widest (2 ^ 32) ≡ 11
unfolding digit_count
widest_of_amount = refl

some_digits : (k n : ℕ) → 1 ≤ digit_count k n
unfolding digit_count
some_digits zero n = omega arith
some_digits (suc k) n = either (nat_lt n 10)
  where
    either : (b : Bool) → 1 ≤ cond b 1 (suc (digit_count k (n / 10)))
    either true = omega arith
    either false = omega arith

-- a number is below the power of ten of its digits
below_power : (k n : ℕ) → n < 10 ^ suc k → n < 10 ^ digit_count k n
unfolding digit_count
below_power zero n small = small
below_power (suc k) n small = either (nat_lt n 10) refl (below_power k (n / 10) (omega (arith, small, pow-suc 10 (suc k))))
  where
    either : (b : Bool) → nat_lt n 10 ≡ b → n / 10 < 10 ^ digit_count k (n / 10) → n < 10 ^ cond b 1 (suc (digit_count k (n / 10)))
    either true one before = ltb-true n 10 one
    either false more before = omega (arith, before, pow-suc 10 (digit_count k (n / 10)))

-- a number takes no more than a greater one
pub width-le : (most x : ℕ) → most < 2 ^ 64 → x ≤ most → width x ≤ widest most
width-le most x small le =
    omega (arith, length-decimal-le (digit_count 20 most) x (some_digits 20 most) (omega (arith, below_power 20 most (omega arith))) (omega arith))

-- n numbers or fewer, none above the greatest
pub widths-le : (n most : ℕ) (xs : List ℕ) → length xs ≤ n → most < 2 ^ 64 → All (λ x. x ≤ most) xs → widths xs ≤ n * widest most
widths-le n most xs few small each = omega (arith, all xs each, mul-le (length xs) (widest most) n (widest most) few (omega arith))
  where
    all : (xs : List ℕ) → All (λ x. x ≤ most) xs → widths xs ≤ length xs * widest most
    all [] each = omega arith
    all (x ∷ xs) each =
        let one = width-le most x small (All-head (λ y. y ≤ most) x xs each) in
        let rest = all xs (All-tail (λ y. y ≤ most) x xs each) in
        omega arith

pub length-words : (w xs : List ℕ) → length (words w xs) ≡ length w + widths xs
length-words w [] = omega arith
length-words w (x ∷ xs) = omega (arith, length-append w (32 ∷ words (decimal x) xs), length-words (decimal x) xs)

pub length-numbers : (xs : List ℕ) → length (numbers xs) ≤ widths xs
length-numbers [] = omega arith
length-numbers (x ∷ xs) = omega (arith, length-words (decimal x) xs)

-- a line of at least one number, with its line feed
pub line-numbers : (x : ℕ) (xs : List ℕ) → length (numbers (x ∷ xs)) + 1 ≡ widths (x ∷ xs)
line-numbers x xs = omega (arith, length-words (decimal x) xs)

pub size-append : (a b : List (List ℕ)) → size (a ++ b) ≡ size a + size b
size-append [] b = omega arith
size-append (line ∷ lines) b = omega (arith, size-append lines b)

pub size-three : (a b c : List (List ℕ)) → size (a ++ b ++ c) ≡ size a + size b + size c
size-three a b c = omega (arith, size-append (a ++ b) c, size-append a b)

pub size-four : (a b c d : List (List ℕ)) → size (a ++ b ++ c ++ d) ≡ size a + size b + size c + size d
size-four a b c d = omega (arith, size-append (a ++ b ++ c) d, size-three a b c)

-- n lines or fewer, each of at most m bytes
pub size-map : {X : Type 0} (line : X → List ℕ) (n m : ℕ) (xs : List X) → length xs ≤ n → All (λ x. length (line x) + 1 ≤ m) xs →
    size (map line xs) ≤ n * m
size-map {X} line n m xs few small = omega (arith, all xs small, mul-le (length xs) m n m few (omega arith))
  where
    all : (xs : List X) → All (λ x. length (line x) + 1 ≤ m) xs → size (map line xs) ≤ length xs * m
    all [] small = omega arith
    all (x ∷ xs) small =
        let one = All-head (λ y. length (line y) + 1 ≤ m) x xs small in
        let rest = all xs (All-tail (λ y. length (line y) + 1 ≤ m) x xs small) in
        omega arith

-- n groups of lines or fewer, each of at most m bytes
pub size-flat_map : {X : Type 0} (lines : X → List (List ℕ)) (n m : ℕ) (xs : List X) → length xs ≤ n → All (λ x. size (lines x) ≤ m) xs →
    size (flat_map lines xs) ≤ n * m
size-flat_map {X} lines n m xs few small = omega (arith, all xs small, mul-le (length xs) m n m few (omega arith))
  where
    all : (xs : List X) → All (λ x. size (lines x) ≤ m) xs → size (flat_map lines xs) ≤ length xs * m
    all [] small = omega arith
    all (x ∷ xs) small =
        let one = All-head (λ y. size (lines y) ≤ m) x xs small in
        let rest = all xs (All-tail (λ y. size (lines y) ≤ m) x xs small) in
        omega (arith, size-append (lines x) (flat_map lines xs))

-- lines, each ended by a line feed
pub length-lines : (lines : List (List ℕ)) → length (flat_map (λ line. line ++ 10 ∷ []) lines) ≡ size lines
length-lines [] = refl
length-lines (line ∷ lines) =
    omega (arith, length-append (line ++ 10 ∷ []) (flat_map (λ l. l ++ 10 ∷ []) lines), length-append line (10 ∷ []), length-lines lines)

pub length-text : (c : Certificate) → length (text c) ≡ size (certificate_lines c)
length-text c = length-lines (certificate_lines c)
