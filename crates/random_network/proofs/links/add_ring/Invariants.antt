use Rattle.std.proofs.Common.{◌≡◌, ◌*◌, ◌++◌, ℕ}
use Rattle.std.specs.List.{flat_map, range_with_len}
use Rattle.random_words.specs.Words.{generator}
use Rattle.random_network.specs.Drawn.{ring_links}
use Rattle.random_network.proofs.links.add_ring.Given as goal

abbrev pub invariant-loop-i : goal.invariant-loop-i
invariant-loop-i l = record {
  place : l.rng.word_pos ≡ 2 * l.i;
  rng : (seed : ℕ) → l.fn.rng ≡ generator seed 2 0 → l.rng ≡ generator seed 2 (2 * l.i);
  links : (seed : ℕ) → l.fn.rng ≡ generator seed 2 0 → l.links.items ≡ l.fn.links.items ++ flat_map (ring_links l.nodes seed) (range_with_len 0 l.i);
}
