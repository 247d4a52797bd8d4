-- Declared pairs of a network, and which of them have a path.
use Rattle.std.specs.Prelude.{ℕ, ◌^◌, ◌<◌, List, All, length}
use Rattle.te_model.specs.declared.network.Network.{Network}
use Rattle.te_model.specs.declared.route.Pair.{Pair}
use Rattle.te_model.specs.Network.{node_count}
pub use Rattle.te_model.specs.Pairs.{no_pair, pair_at}
use Rattle.te_model.specs.Pairs.{IsPairAmong}
use Rattle.shortest_path.specs.Paths.{HasPath}

-- two different nodes of the network
abbrev pub IsPairOf : Network → Pair → Type 0
IsPairOf net pair = IsPairAmong (node_count net) pair

-- pairs of two different nodes, fewer than 2^32
pub record ArePairsOf (net : Network) (pairs : List Pair) : Type 0 where
  pub each : All (IsPairOf net) pairs
  pub few : length pairs < 2 ^ 32

abbrev pub IsReached : Network → List Pair → ℕ → Type 0
IsReached net pairs p = HasPath net (pair_at pairs p).src (pair_at pairs p).dst

abbrev pub AllReached : Network → List Pair → Type 0
AllReached net pairs = (p : ℕ) → p < length pairs → IsReached net pairs p

-- the first pair without a path
pub record IsFirstWithout (net : Network) (pairs : List Pair) (p : ℕ) : Type 0 where
  pub inside : p < length pairs
  pub without : IsReached net pairs p → ⊥
  pub before : (q : ℕ) → q < p → IsReached net pairs q
