-- Series that are drawn by the gravity model: a demand is the product of the sizes of its nodes.
use Rattle.std.specs.Prelude.{ℕ, ◌+◌, ◌*◌, ◌%◌, not, List, map, filter, ◌==◌, slice_index}
use Rattle.std.specs.List.{range_with_len}
use Rattle.rand_chacha.specs.ChaCha.{ChaCha}
use Rattle.te_model.specs.declared.route.Pair.{Pair}
use Rattle.te_model.specs.declared.demand.Matrix.{Matrix}
use Rattle.random_words.specs.Words.{generator, word_on}
use Rattle.traffic_matrix.specs.declared.series.Series.{Series}
use Rattle.traffic_matrix.specs.Pairs.{all_pairs}

-- all pairs of two of n nodes, ascending
abbrev pub every_pair : ℕ → List Pair
every_pair n = filter (λ p. not (p.src == p.dst)) (all_pairs n)

-- the size of a node, 1 to 100, by the word that stands so many places on
abbrev pub size_at : ChaCha → ℕ → ℕ
size_at rng node = 1 + word_on rng node % 100

-- the sizes of n nodes in a step: step after step, each node takes one word of the seed for the purpose 1
abbrev pub sizes_in : ℕ → ℕ → ℕ → List ℕ
sizes_in n seed step = map (size_at (generator seed 1 (step * n))) (range_with_len 0 n)

abbrev pub products : List Pair → List ℕ → List ℕ
products pairs sizes = map (λ p. slice_index sizes p.src * slice_index sizes p.dst) pairs

-- the matrix of a step
abbrev pub gravity_matrix : ℕ → ℕ → ℕ → Matrix
gravity_matrix n seed step = record { demand = products (every_pair n) (sizes_in n seed step) }

-- so many steps for a network of n nodes
abbrev pub gravity_of : ℕ → ℕ → ℕ → Series
gravity_of n seed steps = record {
  pairs = record { list = every_pair n };
  steps = map (gravity_matrix n seed) (range_with_len 0 steps);
}
