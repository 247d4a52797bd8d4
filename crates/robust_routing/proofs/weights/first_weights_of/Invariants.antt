use Rattle.std.proofs.Common.{◌≡◌, ◌≤◌, ◌^◌, ℕ, length, All}
use Rattle.robust_routing.proofs.weights.first_weights_of.Given as goal

abbrev pub invariant-loop-h : goal.invariant-loop-h
invariant-loop-h l = (length l.weights.items ≡ l.h) × All (λ (w : ℕ). (1 ≤ w) × (w ≤ 2 ^ 27)) l.weights.items
