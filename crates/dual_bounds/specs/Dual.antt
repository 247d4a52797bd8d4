-- Lower bounds on the utilisation of a traffic matrix by lengths of the links: the demands by the distances of their pairs, over
-- the capacities by the lengths (the dual bound of Garg and Könemann, 2007).
use Rattle.std.specs.Prelude.{◌≡◌, ℕ, ◌*◌, ◌^◌, ◌≤◌, List, All, length, max, replicate, slice_index}
use Rattle.te_model.specs.declared.network.Network.{Network}
use Rattle.te_model.specs.declared.route.PairRoutes.{PairRoutes}
use Rattle.te_model.specs.declared.bracket.Bracket.{Bracket}
use Rattle.te_model.specs.Counting.{sum_below}
use Rattle.te_model.specs.Inequalities.{capacity_by}
use Rattle.te_model.specs.Network.{link_count, capacity_of}
use Rattle.routing.specs.Utilisation.{parts}

-- a length of 1 for each link
abbrev pub unit_lengths : Network → List ℕ
unit_lengths net = replicate (link_count net) 1

-- the sum of the capacities
abbrev pub total_capacity : Network → ℕ
total_capacity net = sum_below (link_count net) (capacity_of net)

-- the sum of the demands of n pairs by their distances
abbrev pub demand_by : ℕ → List ℕ → (ℕ → ℕ) → ℕ
demand_by n demand distance = sum_below n (λ p. slice_index demand p * distance p)

-- a length of at most 2^28 for each link, the bound from below that the distances of n pairs under them give, and one from above
pub record IsBoundBy (net : Network) (n : ℕ) (demand : List ℕ) (most : ℕ) (distance : ℕ → ℕ) (b : Bracket) : Type 0 where
  pub count : length b.lengths ≡ link_count net
  pub small : All (λ l. l ≤ 2 ^ 28) b.lengths
  pub low_num_is : b.low_num ≡ demand_by n demand distance
  pub low_den_is : b.low_den ≡ max 1 (capacity_by net b.lengths)
  pub parts_are : b.parts ≡ most

-- the same by some distances that the lengths make: `makes` says which these are
pub record IsBoundOf (net : Network) (n : ℕ) (demand : List ℕ) (most : ℕ) (makes : List ℕ → (ℕ → ℕ) → Type 0) (b : Bracket) : Type 0 where
  pub distance : ℕ → ℕ
  pub made : makes b.lengths distance
  pub bound : IsBoundBy net n demand most distance b

-- The bound from above is that of the routing. The bound from below is at least that of lengths of 1, under which the distance
-- of a pair is its number of links.
pub record IsDualBound (net : Network) (routes : List PairRoutes) (demand : List ℕ) (distance hops : ℕ → ℕ) (b : Bracket) : Type 0 where
  pub bound : IsBoundBy net (length routes) demand (parts net routes demand) distance b
  pub at_least_unit : b.low_den * demand_by (length routes) demand hops ≤ b.low_num * total_capacity net
