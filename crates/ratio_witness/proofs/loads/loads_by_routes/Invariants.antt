use Rattle.std.proofs.Common.{◌≡◌, ℕ, length, slice_index}
use Rattle.te_model.specs.declared.limits.TheConstants.{FORMAT_2}
use Rattle.te_model.specs.Flow.{load}
use Rattle.te_model.specs.Path.{share}
use Rattle.ratio_witness.specs.Rules.{demand_of}
use Rattle.ratio_witness.proofs.loads.loads_by_routes.Given as goal

abbrev pub invariant-loop-p : goal.invariant-loop-p
invariant-loop-p l = record {
  count : length l.loads ≡ FORMAT_2.links;
  sums : (e : ℕ) → slice_index l.loads e ≡ load l.p (demand_of l.witness) (share l.head.routes) e;
}
