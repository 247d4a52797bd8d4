-- Sums of costs over walks to one node, and when they are the least.
use Rattle.std.specs.Prelude.{◌≡◌, ℕ, ◌+◌, ◌<◌, ◌≤◌, Bool, true, List, Option, Some, None, length, slice_index}
use Rattle.std.specs.List.{Contains}
use Rattle.te_model.specs.declared.network.Network.{Network}
use Rattle.te_model.specs.Network.{node_count, link_count, tail_of, head_of}
use Rattle.shortest_path.specs.Graph.{AtMost, distance_at}
use Rattle.shortest_path.specs.Links.{is_open, Walk}
use Rattle.shortest_path.specs.Paths.{sum_along}
use Rattle.shortest_path.specs.declared.ways.Ways.{Ways}

-- each known sum, at most the limit, is that of a walk to t over open links; that of t is 0
pub record AreWalkSums (net : Network) (costs : List ℕ) (marks : List Bool) (t limit : ℕ) (sums : List (Option ℕ)) : Type 0 where
  pub count : length sums ≡ node_count net
  pub start : AtMost (distance_at sums t) 0
  pub reached : (v d : ℕ) → distance_at sums v ≡ Some d → (links : List ℕ) × Walk net marks v t links × (sum_along costs links ≡ d)
  pub small : (v d : ℕ) → distance_at sums v ≡ Some d → d ≤ limit

-- link h, where it is open, leads to no lesser sum at its tail
abbrev pub IsTaut : Network → List ℕ → List Bool → List (Option ℕ) → ℕ → Type 0
IsTaut net costs marks sums h =
    is_open marks h ≡ true → (y : ℕ) → distance_at sums (head_of net h) ≡ Some y → AtMost (distance_at sums (tail_of net h)) (slice_index costs h + y)

-- the least sum from v over all links is d, and a walk over open links has it
abbrev pub IsOpenSum : Network → Ways → List Bool → ℕ → ℕ → Type 0
IsOpenSum net ways marks v d =
    (distance_at ways.sums v ≡ Some d) × ((links : List ℕ) × Walk net marks v ways.dst links × (sum_along ways.costs links ≡ d))

-- one sum for each node, or none; the known ones are those over all links too
pub record AreOpenSums (net : Network) (ways : Ways) (marks : List Bool) (sums : List (Option ℕ)) : Type 0 where
  pub count : length sums ≡ node_count net
  pub start : AtMost (distance_at sums ways.dst) 0
  pub each : (v d : ℕ) → distance_at sums v ≡ Some d → IsOpenSum net ways marks v d

-- the list has each link that leaves a node without a sum
abbrev pub HasUnsummed : Network → List (Option ℕ) → List ℕ → Type 0
HasUnsummed net sums list = (h : ℕ) → h < link_count net → distance_at sums (tail_of net h) ≡ None → Contains list h
