use Rattle.std.proofs.Common.{ℕ, ◌<◌, slice_index}
use Rattle.local_search.specs.Loads.{AreWithin}
use Rattle.local_search.specs.Moves.{sizes}
use Rattle.local_search.specs.Search.{loads_moved}
use Rattle.local_search.proofs.search.fitting_size.Given as goal

abbrev pub invariant-loop-size : goal.invariant-loop-size
invariant-loop-size l = (i : ℕ) → i < l.size-index → AreWithin l.net l.aim.times (loads_moved l.loads l.demand l.from l.to (slice_index sizes i)) → ⊥
