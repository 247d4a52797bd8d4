use Rattle.std.proofs.Common.{◌≡◌, ◌+◌, map}
use Rattle.std.specs.List.{range_with_len}
use Rattle.racke_mix.specs.Draws.{drawn_node}
use Rattle.racke_mix.proofs.drawing.draw_nodes.Given as goal

abbrev pub invariant-loop-node : goal.invariant-loop-node
invariant-loop-node l = record {
  rng : l.rng ≡ record l.fn.rng { word_pos = l.fn.rng.word_pos + l.node };
  drawn : l.drawn.items ≡ map (drawn_node l.fn.rng) (range_with_len 0 l.node);
}
