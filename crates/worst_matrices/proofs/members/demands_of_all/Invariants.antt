use Rattle.std.proofs.Common.{ℕ, ◌≡◌, ◌*◌, ◌/◌, ◌^◌, ◌<◌, min}
use Rattle.std.specs.Prelude.{slice_index}
use Rattle.te_model.specs.Pairs.{AreDemands}
use Rattle.worst_matrices.specs.Means.{in_128_bits}
use Rattle.worst_matrices.proofs.members.demands_of_all.Given as goal

abbrev pub invariant-loop-sum : goal.invariant-loop-sum
invariant-loop-sum l = record {
  small : AreDemands l.sum-index l.demand.items;
  parts :
      (q : ℕ) → q < l.sum-index →
      slice_index l.demand.items q ≡ min (in_128_bits (slice_index l.sums.demand.items q * 2 ^ 32) / l.greatest) (2 ^ 32);
}
