use Rattle.std.proofs.Common.{◌≡◌, ℕ, ◌<◌, length, slice_index}
use Rattle.best_blocks.specs.Metric.{distance_in}
use Rattle.best_blocks.proofs.metric.distances_in.Given as goal

abbrev pub invariant-loop-p : goal.invariant-loop-p
invariant-loop-p l = (length l.distances.items ≡ length l.routing.routes) × ((k : ℕ) → k < l.p → slice_index l.distances.items k ≡ distance_in l.rows l.routing.routes k)
