use Rattle.std.proofs.Common.{◌≡◌, ℕ, ◌^◌, ◌<◌, ◌≤◌, slice_index}
use Rattle.centred_steps.proofs.stepping.move_each.Given as goal

-- those that are passed have moved, and the others are as they were
abbrev pub invariant-loop-h : goal.invariant-loop-h
invariant-loop-h l =
    ((k : ℕ) → k < l.h → (1 ≤ slice_index l.weights k) × (slice_index l.weights k ≤ 2 ^ 28))
    × ((k : ℕ) → l.h ≤ k → slice_index l.weights k ≡ slice_index l.fn.weights k)
