-- The centers of nodes in a random decomposition (Bartal, 1996; Fakcharoenphol, Rao and Talwar, 2004).
use Rattle.std.specs.Prelude.{◌≡◌, ℕ, ◌*◌, ◌/◌, ◌^◌, ◌<◌, ◌≤◌, List, MatchBool, Option, Some, None, length, max, nat_lt, slice_index}
use Rattle.te_model.specs.declared.network.Network.{Network}
use Rattle.te_model.specs.Network.{node_count}
use Rattle.shortest_path.specs.Paths.{IsDistance}
use Rattle.tree_embed.specs.declared.centers.TheConstants.{TOP_LEVEL}
use Rattle.tree_embed.specs.Embedding.{Embedding}

-- the greater of the two, or none where one of them is not there
abbrev pub greater_of : Option ℕ → Option ℕ → Option ℕ
greater_of None back = None
greater_of (Some x) None = None
greater_of (Some x) (Some y) = Some (max x y)

-- the symmetrised distance of two nodes: the greater of the least sums of lengths there and back, or none where one of these does not exist
abbrev pub IsSymmetrised : Network → List ℕ → ℕ → ℕ → Option ℕ → Type 0
IsSymmetrised net lengths u v d =
    (there : Option ℕ) × (back : Option ℕ) × IsDistance net lengths u v there × IsDistance net lengths v u back × (d ≡ greater_of there back)

-- their symmetrised distance is at most the radius
abbrev pub IsInRadius : Network → List ℕ → ℕ → ℕ → ℕ → Type 0
IsInRadius net lengths radius u v = (d : ℕ) × IsSymmetrised net lengths u v (Some d) × (d ≤ radius)

-- the radius of a level: the scale in sixteenths, doubled at each level and rounded down
abbrev pub radius : ℕ → ℕ → ℕ
radius scale level = scale * 2 ^ level / 16

-- c is the first in the order that has the property
abbrev pub IsFirst : (ℕ → Type 0) → List ℕ → ℕ → Type 0
IsFirst P order c = P c × ((k : ℕ) × (k < length order) × (slice_index order k ≡ c) × ((j : ℕ) → j < k → P (slice_index order j) → ⊥))

-- the center of node v at a level: the first in the order within the level's radius of v, and at the top level the first in the order
abbrev pub IsCenter : Embedding → ℕ → ℕ → ℕ → Type 0
IsCenter e level v c =
    MatchBool (nat_lt level TOP_LEVEL) (IsFirst (λ u. IsInRadius e.network e.lengths (radius e.scale level) u v) e.order c)
    (c ≡ slice_index e.order 0)

-- the centers of all nodes at all levels
abbrev pub AreCenters : Embedding → (ℕ → ℕ → ℕ) → Type 0
AreCenters e center = (level v : ℕ) → level ≤ TOP_LEVEL → v < node_count e.network → IsCenter e level v (center level v)
