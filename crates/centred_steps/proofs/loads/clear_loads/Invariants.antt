use Rattle.std.proofs.Common.{◌≡◌, ℕ, ◌<◌, slice_index}
use Rattle.centred_steps.proofs.loads.clear_loads.Given as goal

abbrev pub invariant-loop-load : goal.invariant-loop-load
invariant-loop-load l = (k : ℕ) → k < l.load-index → slice_index l.loads k ≡ 0
