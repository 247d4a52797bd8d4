use Rattle.std.proofs.Common.{◌≡◌, ◌≤◌, ◌<◌, ◌*◌, ℕ, All, false, slice_index, length}
use Rattle.te_model.specs.Flow.{load}
use Rattle.te_model.specs.Network.{link_count}
use Rattle.te_model.specs.Path.{share}
use Rattle.routing.proofs.loads.loads_of.Given as goal

abbrev pub invariant-loop-p : goal.invariant-loop-p
invariant-loop-p l = record {
  count : length l.loads.items ≡ link_count l.net;
  marks_count : length l.marks.items ≡ link_count l.net;
  loads : (e : ℕ) → e < link_count l.net → slice_index l.loads.items e ≡ load l.p (slice_index l.matrix.demand) (share l.routes) e;
  small : All (λ x. x ≤ l.p * (4294967296 * 1000000)) l.loads.items;
  marks : All (λ m. m ≡ false) l.marks.items;
}
