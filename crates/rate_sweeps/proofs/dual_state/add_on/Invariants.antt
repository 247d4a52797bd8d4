use Rattle.std.proofs.Common.{◌≡◌, ℕ, ◌+◌, ◌*◌, ◌^◌, ◌<◌, length, min, slice_index, take}
use Rattle.centred_steps.specs.Loads.{AreSmall, times_on}
use Rattle.rate_sweeps.proofs.dual_state.add_on.Given as goal

abbrev pub invariant-loop-link : goal.invariant-loop-link
invariant-loop-link l =
    AreSmall l.loads
    × ((e : ℕ) → e < length l.fn.loads →
    slice_index l.loads e ≡ min (2 ^ 66) (slice_index l.fn.loads e + l.amount * times_on (take l.link-index l.links) e))
