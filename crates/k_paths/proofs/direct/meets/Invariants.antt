use Rattle.std.proofs.Common.{◌≡◌, false, take, slice_index_or}
use Rattle.std.specs.List.{list_any}
use Rattle.te_model.specs.Network.{no_link}
use Rattle.k_paths.specs.Ways.{is_visited}
use Rattle.k_paths.proofs.direct.meets.Given as goal

abbrev pub invariant-loop-h : goal.invariant-loop-h
invariant-loop-h l = list_any (λ h. is_visited l.links l.src l.prefix (slice_index_or l.links h no_link).head) (take l.h-index l.way) ≡ false
