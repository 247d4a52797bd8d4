use Rattle.std.proofs.Common.{ℕ, ◌<◌}
use Rattle.routing.specs.Merge.{path_at}
use Rattle.local_search.specs.Search.{Fits}
use Rattle.local_search.proofs.search.fitting_path.Given as goal

abbrev pub invariant-loop-k : goal.invariant-loop-k
invariant-loop-k l = (k j size : ℕ) → k < l.k → Fits l.net l.loads l.aim.times l.demand (path_at l.paths k) l.candidates j size → ⊥
