-- The chain of centers that leads from one node to another: up to the lowest level that they share, and down again.
use Rattle.std.specs.Prelude.{◌≡◌, ℕ, zero, suc, ◌<◌, ◌≤◌, List, [], ◌∷◌, ◌++◌, map, reverse, nat_eq}
use Rattle.std.specs.List.{dedup, range_with_len}
use Rattle.tree_embed.specs.declared.centers.TheConstants.{TOP_LEVEL}
use Rattle.tree_embed.specs.Embedding.{Embedding}
use Rattle.tree_embed.specs.Centers.{AreCenters}

-- two nodes share a level where their centers agree on it and on all levels above
abbrev pub Share : (ℕ → ℕ → ℕ) → ℕ → ℕ → ℕ → Type 0
Share center v w level = (l : ℕ) → level ≤ l → l ≤ TOP_LEVEL → center l v ≡ center l w

-- a is the lowest level that they share
pub record IsLowestShared (center : ℕ → ℕ → ℕ) (v w a : ℕ) : Type 0 where
  pub level : a ≤ TOP_LEVEL
  pub shared : Share center v w a
  pub lowest : (b : ℕ) → b < a → Share center v w b → ⊥

-- the centers of v at the levels from 1 up to a
abbrev pub centers_up : (ℕ → ℕ → ℕ) → ℕ → ℕ → List ℕ
centers_up center v a = map (λ l. center l v) (range_with_len 1 a)

-- the centers of w at the levels from a down to 1
abbrev pub centers_down : (ℕ → ℕ → ℕ) → ℕ → ℕ → List ℕ
centers_down center w a = reverse (centers_up center w a)

-- the centers of v up to the shared level, and those of w from below it down; where level 0 is shared, the center there
abbrev pub centers_between : (ℕ → ℕ → ℕ) → ℕ → ℕ → ℕ → List ℕ
centers_between center v w zero = center 0 v ∷ []
centers_between center v w (suc a) = centers_up center v (suc a) ++ centers_down center w a

-- from v over the centers between them to w; consecutive equal nodes count once
abbrev pub IsChainOf : (ℕ → ℕ → ℕ) → ℕ → ℕ → List ℕ → Type 0
IsChainOf center v w chain =
    (a : ℕ) × IsLowestShared center v w a × (chain ≡ dedup nat_eq (v ∷ (centers_between center v w a ++ w ∷ [])))

-- the chain of a tree
abbrev pub IsChain : Embedding → ℕ → ℕ → List ℕ → Type 0
IsChain e v w chain = (center : ℕ → ℕ → ℕ) × AreCenters e center × IsChainOf center v w chain
