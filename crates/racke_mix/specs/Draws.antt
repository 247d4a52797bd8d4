-- Orders of nodes and scales, by words that are drawn (the random order and radius of Fakcharoenphol, Rao and Talwar, 2003).
use Rattle.std.specs.Prelude.{ℕ, ◌+◌, ◌%◌, List}
use Rattle.std.specs.List.{range_with_len, AllPairs}
use Rattle.std.specs.List.Sorted.{IsPermutation}
use Rattle.rand_chacha.specs.ChaCha.{ChaCha}
use Rattle.te_model.specs.Counting.{IsUpTo}
use Rattle.random_words.specs.Words.{word_on}
use Rattle.racke_mix.specs.declared.drawing.DrawnNode.{DrawnNode}

-- the nodes 0 to n - 1, ascending by their words and then by their numbers
pub record IsOrderBy (word : ℕ → ℕ) (n : ℕ) (order : List ℕ) : Type 0 where
  pub nodes : IsPermutation (range_with_len 0 n) order
  pub ascending : AllPairs (λ u v. IsUpTo (word u) u (word v) v) order

-- the scale of a word, 16 to 31
abbrev pub scale_by : ℕ → ℕ
scale_by word = 16 + word % 16

-- a node with the word that is drawn for it
abbrev pub drawn_node : ChaCha → ℕ → DrawnNode
drawn_node rng v = record { word = word_on rng v; node = v }
