use Rattle.std.proofs.Common.{◌≡◌, ◌^◌, ◌≤◌, ℕ, All, length}
use Rattle.ratio_tightening.proofs.offering.scaled_weights.Given as goal

abbrev pub invariant-loop-h : goal.invariant-loop-h
invariant-loop-h l = (length l.scaled.items ≡ l.h) × All (λ (x : ℕ). (1 ≤ x) × (x ≤ 2 ^ 28)) l.scaled.items
