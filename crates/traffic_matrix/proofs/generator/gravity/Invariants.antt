use Rattle.std.proofs.Common.{◌≡◌, ◌*◌, map}
use Rattle.std.specs.List.{range_with_len}
use Rattle.random_words.specs.Words.{generator}
use Rattle.traffic_matrix.specs.Gravity.{gravity_matrix}
use Rattle.traffic_matrix.proofs.generator.gravity.Given as goal

abbrev pub invariant-loop-step : goal.invariant-loop-step
invariant-loop-step l = record {
  rng : l.rng ≡ generator l.seed 1 (l._step * l.nodes);
  matrices : l.matrices.items ≡ map (gravity_matrix l.nodes l.seed) (range_with_len 0 l._step);
}
