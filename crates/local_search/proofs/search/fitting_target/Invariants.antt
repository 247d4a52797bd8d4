use Rattle.std.proofs.Common.{ℕ, ◌<◌}
use Rattle.local_search.specs.Search.{Fits}
use Rattle.local_search.proofs.search.fitting_target.Given as goal

abbrev pub invariant-loop-j : goal.invariant-loop-j
invariant-loop-j l = (j size : ℕ) → j < l.j → Fits l.net l.loads l.aim.times l.demand l.from l.candidates j size → ⊥
