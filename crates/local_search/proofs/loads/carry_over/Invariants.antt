use Rattle.std.proofs.Common.{◌≡◌, ℕ, ◌<◌, ◌≤◌, slice_index}
use Rattle.local_search.specs.Loads.{load_after}
use Rattle.local_search.proofs.loads.carry_over.Given as goal

abbrev pub invariant-loop-link : goal.invariant-loop-link
invariant-loop-link l =
    ((e : ℕ) → e < l.link → slice_index l.loads e ≡ load_after (slice_index l.fn.loads e) l.from l.to l.amount e)
    × ((e : ℕ) → l.link ≤ e → slice_index l.loads e ≡ slice_index l.fn.loads e)
