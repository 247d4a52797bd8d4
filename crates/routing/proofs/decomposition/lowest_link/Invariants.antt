use Rattle.std.proofs.Common.{◌≡◌, ◌-◌, ◌<◌, ℕ, slice_index}
use Rattle.te_model.specs.Network.{link_count, tail_of}
use Rattle.routing.proofs.decomposition.lowest_link.Given as goal

abbrev pub invariant-loop-h : goal.invariant-loop-h
invariant-loop-h l = (k : ℕ) → k < l.h → tail_of l.net k ≡ l.node → slice_index l.flow k ≡ 0

abbrev pub decreases-loop-h : goal.decreases-loop-h
decreases-loop-h l = link_count l.net - l.h
