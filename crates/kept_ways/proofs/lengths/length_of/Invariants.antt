use Rattle.std.proofs.Common.{◌≡◌, ◌^◌, min, sum_by, slice_index, take}
use Rattle.kept_ways.proofs.lengths.length_of.Given as goal

abbrev pub invariant-loop-link : goal.invariant-loop-link
invariant-loop-link l = l.sum ≡ min (2 ^ 36) (sum_by (slice_index l.weights) (take l.link-index l.links))
