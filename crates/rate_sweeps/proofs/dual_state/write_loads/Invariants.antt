use Rattle.std.proofs.Common.{◌≡◌, ℕ, ◌^◌, ◌<◌, length, map, min, slice_index}
use Rattle.te_model.specs.Counting.{sum_below}
use Rattle.centred_steps.specs.Loads.{AreSmall}
use Rattle.rate_sweeps.specs.Bounds.{load_of_pair}
use Rattle.rate_sweeps.specs.Sweeps.{links_in}
use Rattle.rate_sweeps.proofs.dual_state.write_loads.Given as goal

abbrev pub invariant-loop-p : goal.invariant-loop-p
invariant-loop-p l =
    AreSmall l.loads
    × ((e : ℕ) → e < length l.fn.loads →
    slice_index l.loads e ≡ min (2 ^ 66) (sum_below l.p (load_of_pair l.matrix.demand (map links_in l.paths) e)))
