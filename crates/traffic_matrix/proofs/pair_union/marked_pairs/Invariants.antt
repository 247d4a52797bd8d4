use Rattle.std.proofs.Common.{◌≡◌, map, filter, false, get_or}
use Rattle.std.specs.List.{range_with_len}
use Rattle.traffic_matrix.specs.Pairs.{pair_of_place, place_of_pair}
use Rattle.traffic_matrix.proofs.pair_union.marked_pairs.Given as goal

abbrev pub invariant-loop-place : goal.invariant-loop-place
invariant-loop-place l =
    l.pairs.items ≡ filter (λ q. get_or l.marks (place_of_pair l.nodes q) false) (map (pair_of_place l.nodes) (range_with_len 0 l.place))
