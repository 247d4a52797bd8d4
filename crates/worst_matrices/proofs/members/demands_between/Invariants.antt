use Rattle.std.proofs.Common.{ℕ, ◌≡◌, ◌<◌}
use Rattle.std.specs.Prelude.{slice_index}
use Rattle.te_model.specs.Demand.{lower_of, upper_of}
use Rattle.te_model.specs.Pairs.{AreDemands}
use Rattle.worst_matrices.specs.Members.{nearest_demand}
use Rattle.worst_matrices.proofs.members.demands_between.Given as goal

abbrev pub invariant-loop-p : goal.invariant-loop-p
invariant-loop-p l = record {
  small : AreDemands l.p l.demand.items;
  nearest :
      (q : ℕ) → q < l.p →
      slice_index l.demand.items q
      ≡ nearest_demand (slice_index l.sums.demand.items q) l.sums.weight (lower_of l.set q) (upper_of l.set q) l.scale.x l.scale.y;
}
