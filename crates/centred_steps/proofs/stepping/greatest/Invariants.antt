use Rattle.std.proofs.Common.{ℕ, ◌<◌, ◌≤◌, slice_index}
use Rattle.centred_steps.proofs.stepping.greatest.Given as goal

abbrev pub invariant-loop-weight : goal.invariant-loop-weight
invariant-loop-weight l = (k : ℕ) → k < l.weight-index → slice_index l.weights k ≤ l.most
