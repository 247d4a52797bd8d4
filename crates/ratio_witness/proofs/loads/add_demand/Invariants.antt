use Rattle.std.proofs.Common.{◌≡◌, ℕ, ◌+◌, ◌*◌, length, take, slice_index}
use Rattle.te_model.specs.declared.limits.TheConstants.{FORMAT_2}
use Rattle.te_model.specs.Path.{weight_on}
use Rattle.ratio_witness.proofs.loads.add_demand.Given as goal

abbrev pub invariant-loop-path : goal.invariant-loop-path
invariant-loop-path l = record {
  count : length l.loads ≡ FORMAT_2.links;
  sums : (e : ℕ) → slice_index l.loads e ≡ slice_index l.fn.loads e + l.demand * weight_on (take l.path-index l.paths) e;
}
