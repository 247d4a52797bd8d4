-- Laws of fair shares.
use Rattle.std.proofs.Common.{◌≡◌, ℕ, zero, suc, ◌+◌, ◌-◌, ◌<◌, ◌≤◌, Bool, true, false, arith, refl, ap, sym, ◌∙◌, inl, inr, min, List, length, sum, slice_index, add-one}
use Rattle.std.specs.Prelude.{if◌then◌else◌, nat_lt, nat_le}
use Rattle.std.proofs.lemmas.Bool.{cases_lt, false≢true}
use Rattle.std.proofs.lemmas.Bool.Decides.{nat_tests}
use Rattle.te_model.specs.Counting.{sum_below, count_below, last_upto}
use Rattle.te_model.proofs.Sums.{sum_below-same, sum_below-le, sum_below-add, sum_below-zero}
use Rattle.te_model.proofs.ApportionLaws.{sum_below-more, sum_is_below}
use Rattle.te_model.proofs.Counts.{count_below-first}
use Rattle.flow_sim.specs.Fair.{taken_at, fair_level, gets_more, share_at, fair}

last_step : (n : ℕ) (test : ℕ → Bool) (b : Bool) → test (suc n) ≡ b → test (last_upto n test) ≡ true → test (last_upto (suc n) test) ≡ true
last_step n test true e rest = rw e e
last_step n test false e rest = rw e rest

pub last_upto-passes : (n : ℕ) (test : ℕ → Bool) → test 0 ≡ true → test (last_upto n test) ≡ true
last_upto-passes zero test none = none
last_upto-passes (suc n) test none = last_step n test (test (suc n)) refl (last_upto-passes n test none)

last_le_step : (n x : ℕ) (b : Bool) → x ≤ n → (if b then suc n else x) ≤ suc n
last_le_step n x true h = omega arith
last_le_step n x false h = omega arith

pub last_upto-le : (n : ℕ) (test : ℕ → Bool) → last_upto n test ≤ n
last_upto-le zero test = omega arith
last_upto-le (suc n) test = last_le_step n (last_upto n test) (test (suc n)) (last_upto-le n test)

greatest_step : (n x k : ℕ) (b : Bool) → k ≤ suc n → (k ≡ suc n → b ≡ true) → (k ≤ n → k ≤ x) → k ≤ (if b then suc n else x)
greatest_step n x k true h top low = h
greatest_step n x k false h top low =
    elim (cases_lt n k) [
      | inl lt ↦ let e : k ≡ suc n = omega arith in absurd (false≢true (top e))
      | inr ge ↦ low ge
    ]

pub last_upto-greatest : (n : ℕ) (test : ℕ → Bool) (k : ℕ) → k ≤ n → test k ≡ true → k ≤ last_upto n test
last_upto-greatest zero test k below passes = below
last_upto-greatest (suc n) test k below passes =
    greatest_step n (last_upto n test) k (test (suc n)) below (λ e. ap test (sym e) ∙ passes)
    (λ low. last_upto-greatest n test k low passes)

min_le : (a b c : ℕ) → b ≤ c → min a b ≤ min a c
min_le a b c h = omega arith

pub taken_at-le : (n : ℕ) (a : ℕ → ℕ) (l m : ℕ) → l ≤ m → taken_at n a l ≤ taken_at n a m
taken_at-le n a l m h = sum_below-le n (λ i. min (a i) l) (λ i. min (a i) m) (λ k below. min_le (a k) l m h)

pub taken_at-zero : (n : ℕ) (a : ℕ → ℕ) → taken_at n a 0 ≡ 0
taken_at-zero n a = sum_below-zero n (λ i. min (a i) 0) (λ k below. omega arith)

next_min : (a l : ℕ) → min a (suc l) ≡ min a l + (if nat_lt l a then 1 else 0)
next_min a l = grind (arith, nat_tests)

pub taken_at-next : (n : ℕ) (a : ℕ → ℕ) (l : ℕ) → taken_at n a (suc l) ≡ taken_at n a l + count_below n (λ i. nat_lt l (a i))
taken_at-next n a l =
    sum_below-same n (λ i. min (a i) (suc l)) (λ i. min (a i) l + (if nat_lt l (a i) then 1 else 0)) (λ k below. next_min (a k) l)
    ∙ sum_below-add n (λ i. min (a i) l) (λ i. if nat_lt l (a i) then 1 else 0)

-- together they take at least the less of all that arrives and the level
pub taken_at-least : (n : ℕ) (a : ℕ → ℕ) (l : ℕ) → min (sum_below n a) l ≤ taken_at n a l
taken_at-least zero a l = omega arith
taken_at-least (suc n) a l = omega (arith, taken_at-least n a l)

pub level_fits : (left n : ℕ) (a : ℕ → ℕ) → taken_at n a (fair_level left n a) ≤ left
level_fits left n a =
    let zero_taken = taken_at-zero n a in
    let at_zero : nat_le (taken_at n a 0) left ≡ true = grind (arith, nat_tests) in
    let passes = last_upto-passes left (λ level. nat_le (taken_at n a level) left) at_zero in
    let t = taken_at n a (fair_level left n a) in
    let said : nat_le t left ≡ true = passes in
    grind (arith, nat_tests)

pub level_above : (left n : ℕ) (a : ℕ → ℕ) (m : ℕ) → m ≤ left → taken_at n a m ≤ left → m ≤ fair_level left n a
level_above left n a m below fits =
    last_upto-greatest left (λ level. nat_le (taken_at n a level) left) m below (grind (arith, nat_tests))

pub level_below : (left n : ℕ) (a : ℕ → ℕ) (m : ℕ) → left < taken_at n a m → fair_level left n a < m
level_below left n a m over =
    elim (cases_lt (fair_level left n a) m) [
      | inl lt ↦ lt
      | inr ge ↦ absurd (omega (arith, level_fits left n a, taken_at-le n a m (fair_level left n a) ge))
    ]

pub level_le : (left n : ℕ) (a : ℕ → ℕ) → fair_level left n a ≤ left
level_le left n a = last_upto-le left (λ level. nat_le (taken_at n a level) left)

-- more places are above the level than get a unit more
pub spare_fits : (left n : ℕ) (a : ℕ → ℕ) → left < sum_below n a →
    left - taken_at n a (fair_level left n a) ≤ count_below n (λ i. nat_lt (fair_level left n a) (a i))
spare_fits left n a over =
    let level = fair_level left n a in
    elim (cases_lt (level) left) [
      | inl lt ↦
          elim (cases_lt left (taken_at n a (suc level))) [
            | inl more ↦ omega (arith, taken_at-next n a level)
            | inr fits ↦ absurd (omega (arith, level_above left n a (suc level) (omega arith) fits))
          ]
      | inr ge ↦ omega (arith, taken_at-least n a level, level_le left n a)
    ]

pub share_at-sum : (left n : ℕ) (a : ℕ → ℕ) → left < sum_below n a → sum_below n (share_at left n a (fair_level left n a)) ≡ left
share_at-sum left n a over =
    let level = fair_level left n a in
    let few = left - taken_at n a level in
    omega (
      arith,
      sum_below-add n (λ i. min (a i) level) (λ i. if gets_more left n a level i then 1 else 0),
      count_below-first n few (λ i. nat_lt level (a i)),
      spare_fits left n a over,
      level_fits left n a,
    )

share_at-le : (left n : ℕ) (a : ℕ → ℕ) (level i : ℕ) → share_at left n a level i ≤ a i
share_at-le left n a level i = grind (arith, nat_tests)

-- no place gets more than arrived there
pub fair-le : (left n : ℕ) (a : ℕ → ℕ) (i : ℕ) → fair left n a i ≤ a i
fair-le left n a i = go (nat_le (sum_below n a) left)
  where
    go : (b : Bool) → (if b then a i else share_at left n a (fair_level left n a) i) ≤ a i
    go true = omega arith
    go false = share_at-le left n a (fair_level left n a) i

pub fair_all : (left n : ℕ) (a : ℕ → ℕ) (i : ℕ) → sum_below n a ≤ left → fair left n a i ≡ a i
fair_all left n a i fits = let e : nat_le (sum_below n a) left ≡ true = grind (arith, nat_tests) in rw e refl

pub fair_some : (left n : ℕ) (a : ℕ → ℕ) (i : ℕ) → left < sum_below n a → fair left n a i ≡ share_at left n a (fair_level left n a) i
fair_some left n a i over = let e : nat_le (sum_below n a) left ≡ false = grind (arith, nat_tests) in rw e refl

-- together they get all that arrived, or all that is left
pub fair-sum : (left n : ℕ) (a : ℕ → ℕ) → sum_below n (fair left n a) ≡ min left (sum_below n a)
fair-sum left n a =
    elim (cases_lt left (sum_below n a)) [
      | inl over ↦
          omega (
            arith,
            sum_below-same n (fair left n a) (share_at left n a (fair_level left n a)) (λ k below. fair_some left n a k over),
            share_at-sum left n a over,
          )
      | inr fits ↦ omega (arith, sum_below-same n (fair left n a) a (λ k below. fair_all left n a k fits))
    ]

pub taken_at-within : (xs : List ℕ) (level i : ℕ) → i < length xs →
    taken_at i (slice_index xs) level + min (slice_index xs i) level ≤ sum xs
taken_at-within xs level i below =
    let upto = sum_below-more (i + 1) (length xs) (slice_index xs) (omega arith) in
    let next : sum_below (i + 1) (slice_index xs) ≡ sum_below i (slice_index xs) + slice_index xs i = rw add-one refl in
    omega (
      arith,
      sum_below-le i (λ k. min (slice_index xs k) level) (slice_index xs) (λ k k_below. omega arith),
      sum_is_below xs,
      upto,
      next,
    )
