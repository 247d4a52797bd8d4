-- Limits of the numbers of a sweep.
use Rattle.std.proofs.Common.{◌≡◌, inl, inr, ℕ, ◌+◌, ◌-◌, ◌/◌, ◌^◌, ◌≤◌, min, arith, ap, ◌∙◌}
use Rattle.std.proofs.lemmas.Bool.{cases_lt}
use Rattle.std.proofs.lemmas.Nat.{le-div}
use Rattle.std.proofs.Math.Nat.{div-le_self, pow-le-pow_right}

pub phase_parts : (phase : ℕ) → phase ≤ 7 → (1 ≤ 2 ^ phase) × (2 ^ phase ≤ 128)
phase_parts phase few = (pow-le-pow_right {n = 2} (omega arith) {i = 0} {j = phase} (omega arith), pow-le-pow_right {n = 2} (omega arith) {i = phase} {j = 7} few)

pub slack_limits : (parts : ℕ) → parts ≤ 128 → (1 ≤ 2 ^ 30 / (10 + parts)) × (2 ^ 30 / (10 + parts) ≤ 2 ^ 30)
slack_limits parts few = (le-div 1 (2 ^ 30) (10 + parts) (omega arith) (omega (arith, few)), div-le_self (2 ^ 30) (10 + parts))

-- a quotient by a small number that ends at 2^28 does not see where its numerator ends
pub ended_quotient : (n d : ℕ) → 1 ≤ d → d ≤ 2 ^ 34 → min (min n (2 ^ 64 - 1) / d) (2 ^ 28 - 1) ≡ min (n / d) (2 ^ 28 - 1)
ended_quotient n d some small = elim (cases_lt n (2 ^ 64)) [
  | inl below ↦ let e : min n (2 ^ 64 - 1) ≡ n = omega (arith, below) in ap (λ k. min (k / d) (2 ^ 28 - 1)) e
  | inr above ↦
      let e : min n (2 ^ 64 - 1) ≡ 2 ^ 64 - 1 = omega (arith, above) in
      let a : 2 ^ 28 - 1 ≤ (2 ^ 64 - 1) / d = le-div (2 ^ 28 - 1) (2 ^ 64 - 1) d some (omega (arith, small)) in
      let b : 2 ^ 28 - 1 ≤ n / d = le-div (2 ^ 28 - 1) n d some (omega (arith, small, above)) in
      ap (λ k. min (k / d) (2 ^ 28 - 1)) e ∙ omega (arith, a, b)
]
