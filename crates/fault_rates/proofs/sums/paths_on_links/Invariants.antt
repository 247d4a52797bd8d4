use Rattle.std.proofs.Common.{◌≡◌, ℕ, slice_index, length}
use Rattle.te_model.specs.Counting.{count_below}
use Rattle.te_model.specs.Path.{has_number}
use Rattle.te_model.specs.declared.limits.TheConstants.{FORMAT_2}
use Rattle.fault_rates.specs.Plan.{links_of}
use Rattle.fault_rates.proofs.sums.paths_on_links.Given as goal

abbrev pub invariant-loop-i : goal.invariant-loop-i
invariant-loop-i l = record {
  count : length l.counts ≡ FORMAT_2.links;
  each : (e : ℕ) → slice_index l.counts e ≡ count_below l.i (λ i. has_number (links_of l.paths i) e);
}
