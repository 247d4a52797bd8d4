-- What a decomposition tree is made of.
use Rattle.std.specs.Prelude.{◌≡◌, ℕ, ◌^◌, ◌≤◌, All, IsPermutation, IsTrue, List, length}
use Rattle.std.specs.List.{range_with_len}
use Rattle.te_model.specs.declared.network.Network.{Network}
use Rattle.te_model.specs.Network.{is_well_formed, node_count, link_count}

-- a network, a length for each of its links, an order of its nodes, and a scale in sixteenths
pub record Embedding : Type 0 where
  pub network : Network
  pub lengths : List ℕ
  pub order : List ℕ
  pub scale : ℕ

-- each node of the network, once
abbrev pub IsOrder : Network → List ℕ → Type 0
IsOrder net order = IsPermutation (range_with_len 0 (node_count net)) order

-- the numbers are within their limits
pub record IsEmbedding (e : Embedding) : Type 0 where
  pub formed : IsTrue (is_well_formed e.network)
  pub count : length e.lengths ≡ link_count e.network
  pub small : All (λ l. l ≤ 2 ^ 28) e.lengths
  pub positive : All (λ l. 1 ≤ l) e.lengths
  pub ordered : IsOrder e.network e.order
  pub low : 16 ≤ e.scale
  pub high : e.scale ≤ 31
