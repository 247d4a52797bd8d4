use Rattle.std.proofs.Common.{◌≡◌, ℕ, slice_index, length}
use Rattle.te_model.specs.Counting.{sum_below}
use Rattle.te_model.specs.Network.{link_count}
use Rattle.te_model.specs.Path.{routes_at}
use Rattle.fault_rates.specs.Plan.{allocations_at, amount_of_paths}
use Rattle.fault_rates.proofs.sums.allocated.Given as goal

abbrev pub invariant-loop-p : goal.invariant-loop-p
invariant-loop-p l = record {
  count : length l.sums.items ≡ link_count l.net;
  each : (e : ℕ) → slice_index l.sums.items e
      ≡ sum_below l.p (λ p. amount_of_paths (routes_at l.routes p).paths (slice_index (allocations_at l.plan p)) e);
}
