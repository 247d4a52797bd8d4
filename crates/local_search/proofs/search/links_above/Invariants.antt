use Rattle.std.proofs.Common.{◌≡◌, ℕ, ◌*◌, ◌<◌, true, slice_index}
use Rattle.te_model.specs.Network.{capacity_of}
use Rattle.te_model.specs.Path.{has_number}
use Rattle.local_search.proofs.search.links_above.Given as goal

abbrev pub invariant-loop-h : goal.invariant-loop-h
invariant-loop-h l = (e : ℕ) → e < l.h → l.times * capacity_of l.net e < slice_index l.loads e → has_number l.above.items e ≡ true
