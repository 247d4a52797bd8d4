-- The path of a decomposition tree between two nodes (Räcke, 2008).
use Rattle.std.specs.Prelude.{◌≡◌, ℕ, List, [], ◌∷◌, ◌++◌, Option, Some, None}
use Rattle.te_model.specs.declared.network.Network.{Network}
use Rattle.shortest_path.specs.Paths.{IsLeastPath}
use Rattle.routing.specs.Loops.{IsCut}
use Rattle.tree_embed.specs.Embedding.{Embedding}
use Rattle.tree_embed.specs.Chains.{IsChain}

-- the walk is the least paths between neighbours of the chain, one after the other
abbrev pub AreJoined : Network → List ℕ → List ℕ → List ℕ → Type 0
AreJoined net lengths [] walk = walk ≡ []
AreJoined net lengths (u ∷ []) walk = walk ≡ []
AreJoined net lengths (u ∷ v ∷ chain) walk =
    (path : List ℕ) × (rest : List ℕ) × IsLeastPath net lengths u v (Some path) × AreJoined net lengths (v ∷ chain) rest × (walk ≡ path ++ rest)

-- the walk of the chain, or none where one of its least paths does not exist
abbrev pub IsJoin : Network → List ℕ → List ℕ → Option (List ℕ) → Type 0
IsJoin net lengths chain None = (walk : List ℕ) → AreJoined net lengths chain walk → ⊥
IsJoin net lengths chain (Some walk) = AreJoined net lengths chain walk

-- the walk from s without its loops, or where there is no walk the least path from s to t
abbrev pub IsPathFor : Network → List ℕ → ℕ → ℕ → Option (List ℕ) → Option (List ℕ) → Type 0
IsPathFor net lengths s t None path = IsLeastPath net lengths s t path
IsPathFor net lengths s t (Some walk) path = (cut : List ℕ) × IsCut net s walk cut × (path ≡ Some cut)

-- the tree path from s to t, or none where no path leads there
abbrev pub IsTreePath : Embedding → ℕ → ℕ → Option (List ℕ) → Type 0
IsTreePath e s t path =
    (chain : List ℕ) × (walk : Option (List ℕ)) × IsChain e s t chain × IsJoin e.network e.lengths chain walk
    × IsPathFor e.network e.lengths s t walk path
