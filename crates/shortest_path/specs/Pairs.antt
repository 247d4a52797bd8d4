-- The distances of declared pairs, and lists that hold the numbers of a function.
use Rattle.std.specs.Prelude.{◌≡◌, ℕ, ◌<◌, List, Some, length, slice_index}
use Rattle.te_model.specs.declared.network.Network.{Network}
use Rattle.te_model.specs.declared.route.PairRoutes.{PairRoutes}
use Rattle.te_model.specs.Path.{source_of, destination_of}
use Rattle.shortest_path.specs.Paths.{IsDistance}

-- the least sum of lengths from the source to the destination of each pair
abbrev pub ArePairDistances : Network → List ℕ → List PairRoutes → (ℕ → ℕ) → Type 0
ArePairDistances net lengths routes distance =
    (p : ℕ) → p < length routes → IsDistance net lengths (source_of routes p) (destination_of routes p) (Some (distance p))

-- the numbers of a function, one for each of n places
pub record AreValues (n : ℕ) (value : ℕ → ℕ) (numbers : List ℕ) : Type 0 where
  pub count : length numbers ≡ n
  pub each : (p : ℕ) → p < n → slice_index numbers p ≡ value p
