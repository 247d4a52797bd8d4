use Rattle.std.proofs.Common.{ℕ, ◌<◌, slice_index}
use Rattle.local_search.specs.Search.{FitsAt}
use Rattle.local_search.proofs.search.fitting_move.Given as goal

abbrev pub invariant-loop-holder : goal.invariant-loop-holder
invariant-loop-holder l = (i : ℕ) → i < l.holder-index → (k j size : ℕ) →
    FitsAt l.net l.loads l.aim.times l.matrix.demand l.routes l.candidates (slice_index l.holders i) k j size → ⊥
