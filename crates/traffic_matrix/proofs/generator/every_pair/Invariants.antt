use Rattle.std.proofs.Common.{◌≡◌, ◌==◌, All, map, filter, not}
use Rattle.std.specs.List.{range_with_len}
use Rattle.te_model.specs.Pairs.{IsNodePair}
use Rattle.traffic_matrix.specs.Pairs.{pair_of_place}
use Rattle.traffic_matrix.proofs.generator.every_pair.Given as goal

abbrev pub invariant-loop-place : goal.invariant-loop-place
invariant-loop-place l = record {
  pairs : l.pairs.items ≡ filter (λ p. not (p.src == p.dst)) (map (pair_of_place l.nodes) (range_with_len 0 l.place));
  within : All (IsNodePair l.nodes) l.pairs.items;
}
