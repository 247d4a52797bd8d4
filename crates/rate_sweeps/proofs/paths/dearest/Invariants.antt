use Rattle.std.proofs.Common.{◌≡◌, ◌<◌, length}
use Rattle.rate_sweeps.specs.Choices.{IsFirstGreatest, cost_at}
use Rattle.rate_sweeps.proofs.paths.dearest.Given as goal

-- the place is the first such one so far
abbrev pub invariant-loop-k : goal.invariant-loop-k
invariant-loop-k l =
    (l.place < length l.paths)
    × IsFirstGreatest (cost_at l.lengths l.paths) l.k l.place
    × (l.most ≡ cost_at l.lengths l.paths l.place)
