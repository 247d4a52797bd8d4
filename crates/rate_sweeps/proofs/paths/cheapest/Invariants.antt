use Rattle.std.proofs.Common.{◌≡◌, ◌<◌, length}
use Rattle.rate_sweeps.specs.Choices.{IsFirstLeastPlace, cost_at}
use Rattle.rate_sweeps.proofs.paths.cheapest.Given as goal

-- the place is the first such one so far
abbrev pub invariant-loop-k : goal.invariant-loop-k
invariant-loop-k l =
    (l.place < length l.paths)
    × IsFirstLeastPlace (cost_at l.lengths l.paths) l.k l.place
    × (l.least ≡ cost_at l.lengths l.paths l.place)
