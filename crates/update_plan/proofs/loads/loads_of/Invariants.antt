use Rattle.std.proofs.Common.{◌≡◌, ℕ, slice_index, length}
use Rattle.te_model.specs.Network.{link_count}
use Rattle.update_plan.specs.Loads.{IsFreeBeyond}
use Rattle.update_plan.proofs.LoadSums.{first_load}
use Rattle.update_plan.proofs.loads.loads_of.Given as goal

abbrev pub invariant-loop-path : goal.invariant-loop-path
invariant-loop-path l = record {
  count : length l.loads.items ≡ link_count l.net;
  beyond : IsFreeBeyond l.loads.items;
  each : (e : ℕ) → slice_index l.loads.items e ≡ first_load l.demands l.paths l.kind l.path-index e;
}
