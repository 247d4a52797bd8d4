use Rattle.std.proofs.Common.{◌≡◌, ℕ, ◌^◌, ◌<◌, ◌≤◌, slice_index}
use Rattle.centred_steps.proofs.stepping.level_each.Given as goal

abbrev pub invariant-loop-weight : goal.invariant-loop-weight
invariant-loop-weight l =
    ((k : ℕ) → k < l.weight-index → (1 ≤ slice_index l.weights k) × (slice_index l.weights k ≤ 2 ^ 27))
    × ((k : ℕ) → l.weight-index ≤ k → slice_index l.weights k ≡ slice_index l.fn.weights k)
