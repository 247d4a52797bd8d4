-- From no allocation at all one pair after the other is raised by one, while that fits; what is missing of the demands falls.
use Rattle.std.proofs.Common.{◌≡◌, ◌⊎◌, ℕ, zero, suc, ◌-◌, ◌*◌, ◌<◌, ◌≤◌, Bool, true, false, arith, refl, ap, sym, subst, ◌∙◌, inl, inr}
use Rattle.std.specs.Prelude.{if◌then◌else◌}
use Rattle.std.proofs.lemmas.Bool.{cases_eq, cases_lt}
use Rattle.std.proofs.lemmas.Bool.Decides.{nat_tests}
use Rattle.std.proofs.Math.Nat.{mul-le-mul_left}
use Rattle.te_model.specs.Counting.{sum_below}
use Rattle.te_model.proofs.Sums.{sum_below-le, sum_below-zero}
use Rattle.te_model.proofs.Searches.{first_or_all}
use Rattle.fault_rates.specs.Protection.{Protection, paths_left, sum_on_link, AreGuarded}
use Rattle.fault_rates.specs.Laws.{with_even, raised_at, EvenProtectionsExist}
use Rattle.fault_rates.proofs.Survival.{even_guard}

-- what holds of the allocations after each step
pub record KeepsEven (x : Protection) (a : ℕ → ℕ) : Type 0 where
  pub fits : (e : ℕ) → e < x.links → sum_on_link x (λ q i. a q) e ≤ x.capacity e
  pub none : (p : ℕ) → p < x.pairs → paths_left x p ≡ 0 → a p ≡ 0
  pub cap : (p : ℕ) → p < x.pairs → 0 < paths_left x p → (a p ≡ 0) ⊎ (paths_left x p * (a p - 1) < x.demand p)

-- a pair that may be raised by one
record CanRaise (x : Protection) (a : ℕ → ℕ) (p : ℕ) : Type 0 where
  pub left : 0 < paths_left x p
  pub below : paths_left x p * a p < x.demand p
  pub fits : (e : ℕ) → e < x.links → sum_on_link x (λ q i. raised_at a p q) e ≤ x.capacity e

-- one that may not: where it is below its demand, some link is in the way
abbrev IsFull : Protection → (ℕ → ℕ) → ℕ → Type 0
IsFull x a p = 0 < paths_left x p → paths_left x p * a p < x.demand p →
    (e : ℕ) × (e < x.links) × (x.capacity e < sum_on_link x (λ q i. raised_at a p q) e)

raise_or_full : (x : Protection) (a : ℕ → ℕ) (p : ℕ) → CanRaise x a p ⊎ IsFull x a p
raise_or_full x a p =
    elim (cases_lt 0 (paths_left x p)) [
      | inr none ↦ inr (λ left below. absurd (omega (arith, none, left)))
      | inl left ↦ elim (cases_lt (paths_left x p * a p) (x.demand p)) [
        | inr met ↦ inr (λ left' below. absurd (omega (arith, met, below)))
        | inl below ↦ elim (first_or_all (λ e. x.capacity e < sum_on_link x (λ q i. raised_at a p q) e)
            (λ e. sum_on_link x (λ q i. raised_at a p q) e ≤ x.capacity e) x.links
            (λ e e_in. elim (cases_lt (x.capacity e) (sum_on_link x (λ q i. raised_at a p q) e)) [
              | inl over ↦ inl over
              | inr fits ↦ inr fits
            ])) [
              | inl found ↦ inr (λ left' below'. (found.0, found.1, found.2))
              | inr all ↦ inl (record { left = left; below = below; fits = all })
            ]
      ]
    ]

pub raised_same : (a : ℕ → ℕ) (p : ℕ) → raised_at a p p ≡ suc (a p)
raised_same a p = grind (arith, nat_tests)

pub raised_other : (a : ℕ → ℕ) (p q : ℕ) → (q ≡ p → ⊥) → raised_at a p q ≡ a q
raised_other a p q other = grind (arith, nat_tests)

raise_keeps : (x : Protection) (a : ℕ → ℕ) (p : ℕ) → KeepsEven x a → CanRaise x a p → KeepsEven x (raised_at a p)
raise_keeps x a p keeps can = record {
  fits = can.fits;
  none = λ q q_in left. elim (cases_eq q p) [
    | inl same ↦ absurd (let l = can.left in let e : paths_left x q ≡ paths_left x p = ap (paths_left x) same in omega (arith, left, l, e))
    | inr other ↦ raised_other a p q other ∙ keeps.none q q_in left
  ];
  cap = λ q q_in left. elim (cases_eq q p) [
    | inl same ↦ inr (subst (λ k. paths_left x k * (raised_at a p k - 1) < x.demand k) (sym same) (capped_at_p can.below (raised_same a p)))
    | inr other ↦ elim (keeps.cap q q_in left) [
      | inl zero' ↦ inl (raised_other a p q other ∙ zero')
      | inr capped ↦ inr (subst (λ k. paths_left x q * (k - 1) < x.demand q) (sym (raised_other a p q other)) capped)
    ]
  ];
}
  where
    capped_at_p : paths_left x p * a p < x.demand p → raised_at a p p ≡ suc (a p) → paths_left x p * (raised_at a p p - 1) < x.demand p
    capped_at_p below is =
        let one_less : raised_at a p p - 1 ≡ a p = omega (arith, is) in
        subst (λ k. paths_left x p * k < x.demand p) (sym one_less) below

-- what the allocations lack of the demands
abbrev lack : Protection → (ℕ → ℕ) → ℕ
lack x a = sum_below x.pairs (λ q. x.demand q - a q)

sum_falls : (n p : ℕ) (f g : ℕ → ℕ) → p < n → ((k : ℕ) → k < n → f k ≤ g k) → f p < g p → sum_below n f < sum_below n g
sum_falls zero p f g below each less = absurd (omega (arith, below))
sum_falls (suc n) p f g below each less =
    elim (cases_lt p n) [
      | inl lt ↦ let here = each n (omega arith) in omega (arith, sum_falls n p f g lt (λ k k_in. each k (omega (arith, k_in))) less, here)
      | inr ge ↦
          let e : n ≡ p = omega (arith, below, ge) in
          let front = sum_below-le n f g (λ k k_in. each k (omega (arith, k_in))) in
          let last : f n < g n = subst (λ k. f k < g k) (sym e) less in
          omega (arith, front, last)
    ]

lack_falls : (x : Protection) (a : ℕ → ℕ) (p : ℕ) → p < x.pairs → CanRaise x a p → lack x (raised_at a p) < lack x a
lack_falls x a p p_in can =
    let most = mul-le-mul_left {m = 1} {n = paths_left x p} (a p) can.left in
    let below = can.below in
    let is = raised_same a p in
    sum_falls x.pairs p (λ q. x.demand q - raised_at a p q) (λ q. x.demand q - a q) p_in
    (λ q q_in. elim (cases_eq q p) [
      | inl same ↦ let e : raised_at a p q ≡ suc (a q) = subst (λ k. raised_at a p k ≡ suc (a k)) (sym same) (raised_same a p) in omega (arith, e)
      | inr other ↦ let e = raised_other a p q other in omega (arith, e)
    ])
    (omega (arith, most, below, is))

grow : (x : Protection) (fuel : ℕ) (a : ℕ → ℕ) → lack x a < fuel → KeepsEven x a → (b : ℕ → ℕ) × KeepsEven x b × ((p : ℕ) → p < x.pairs → IsFull x b p)
grow x zero a short keeps = absurd (omega (arith, short))
grow x (suc fuel) a short keeps =
    elim (first_or_all (CanRaise x a) (IsFull x a) x.pairs (λ p p_in. raise_or_full x a p)) [
      | inl found ↦
          let falls = lack_falls x a found.0 found.1 found.2 in
          grow x fuel (raised_at a found.0) (omega (arith, short, falls)) (raise_keeps x a found.0 keeps found.2)
      | inr full ↦ (a, keeps, full)
    ]

-- nothing is allocated
nothing_fits : (x : Protection) (e : ℕ) → sum_on_link x (λ q i. 0) e ≡ 0
nothing_fits x e = sum_below-zero x.pairs (λ p. sum_below (x.paths p) (λ i. if x.holds p i e then 0 else 0))
    (λ p below. sum_below-zero (x.paths p) (λ i. if x.holds p i e then 0 else 0) (λ i i_in. either_one (x.holds p i e) 0))
  where
    either_one : (b : Bool) (n : ℕ) → (if b then n else n) ≡ n
    either_one true n = refl
    either_one false n = refl

start : (x : Protection) → KeepsEven x (λ q. 0)
start x = record {
  fits = λ e e_in. let none = nothing_fits x e in omega (arith, none);
  none = λ p below left. refl;
  cap = λ p below left. inl refl;
}

pub guarded_by : (x : Protection) (a : ℕ → ℕ) → KeepsEven x a → AreGuarded (with_even x a)
guarded_by x a keeps = record {
  fits = keeps.fits;
  guarded = λ p below. let even = even_guard (with_even x a) p (a p) (λ i i_in. refl) in omega (arith, even);
  wanted = λ p below. omega arith;
}

pub even_protections_exist : EvenProtectionsExist
even_protections_exist x =
    let grown = grow x (suc (lack x (λ q. 0))) (λ q. 0) (omega arith) (start x) in
    let keeps = grown.1 in
    (grown.0, record { guarded = guarded_by x grown.0 keeps; none = keeps.none; cap = keeps.cap; most = grown.2 })
