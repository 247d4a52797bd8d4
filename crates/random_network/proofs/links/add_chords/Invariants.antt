use Rattle.std.proofs.Common.{◌≡◌, ◌+◌, ◌*◌, ◌++◌, ℕ}
use Rattle.std.specs.List.{flat_map, range_with_len}
use Rattle.random_words.specs.Words.{generator}
use Rattle.random_network.specs.Drawn.{chord_links}
use Rattle.random_network.proofs.links.add_chords.Given as goal

abbrev pub invariant-loop-i : goal.invariant-loop-i
invariant-loop-i l = record {
  place : l.rng.word_pos ≡ 2 * l.nodes + 3 * l.i;
  rng : (seed : ℕ) → l.fn.rng ≡ generator seed 2 (2 * l.nodes) → l.rng ≡ generator seed 2 (2 * l.nodes + 3 * l.i);
  links : (seed : ℕ) → l.fn.rng ≡ generator seed 2 (2 * l.nodes) → l.links.items ≡ l.fn.links.items ++ flat_map (chord_links l.nodes seed) (range_with_len 0 l.i);
}
