use Rattle.std.proofs.Common.{◌≡◌, ℕ, Some, length}
use Rattle.shortest_path.specs.Graph.{distance_at}
use Rattle.k_paths.specs.Sums.{IsOpenSum}
use Rattle.k_paths.proofs.sums.open_sums.Given as goal

abbrev pub invariant-loop-v : goal.invariant-loop-v
invariant-loop-v l = (length l.sums.items ≡ l.v) × ((k d : ℕ) → distance_at l.sums.items k ≡ Some d → IsOpenSum l.net l.ways l.open k d)
