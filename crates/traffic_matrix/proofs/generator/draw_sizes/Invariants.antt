use Rattle.std.proofs.Common.{◌≡◌, ◌≤◌, ◌+◌, All, map}
use Rattle.std.specs.List.{range_with_len}
use Rattle.traffic_matrix.specs.Gravity.{size_at}
use Rattle.traffic_matrix.proofs.generator.draw_sizes.Given as goal

abbrev pub invariant-loop-node : goal.invariant-loop-node
invariant-loop-node l = record {
  rng : l.rng ≡ record l.fn.rng { word_pos = l.fn.rng.word_pos + l._node };
  sizes : l.sizes.items ≡ map (size_at l.fn.rng) (range_with_len 0 l._node);
  small : All (λ s. s ≤ 100) l.sizes.items;
}
