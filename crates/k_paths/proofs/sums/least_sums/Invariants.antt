use Rattle.std.proofs.Common.{◌+◌, ◌*◌, ◌^◌, ℕ}
use Rattle.shortest_path.specs.Graph.{AtMost, distance_at}
use Rattle.k_paths.specs.Sums.{AreWalkSums}
use Rattle.k_paths.proofs.sums.least_sums.Given as goal

abbrev pub invariant-loop-round : goal.invariant-loop-round
invariant-loop-round l =
    AreWalkSums l.net l.ways.costs l.open l.ways.dst (2 ^ 24 + 67107840 * l._round) l.sums.items
    × ((v x : ℕ) → AtMost (distance_at l.initial.sums.items v) x → AtMost (distance_at l.sums.items v) x)
