use Rattle.std.proofs.Common.{◌≡◌, ℕ, ◌+◌, ◌*◌, ◌<◌, length, take, slice_index, false, All}
use Rattle.te_model.specs.Path.{weight_on}
use Rattle.routing.proofs.loads.add_demand.Given as goal

abbrev pub invariant-loop-path : goal.invariant-loop-path
invariant-loop-path l = record {
  loads : (e : ℕ) → e < length l.fn.loads → slice_index l.loads e ≡ slice_index l.fn.loads e + l.demand * weight_on (take l.path-index l.paths) e;
  marks : All (λ m. m ≡ false) l.marks;
}
