-- Weights of links that are neither 0 nor too great.
use Rattle.std.specs.Prelude.{ℕ, ◌<◌, ◌≤◌, List, length, slice_index}

-- each of the weights is at least 1 and at most the limit
pub record AreWeightsUpTo (limit : ℕ) (weights : List ℕ) : Type 0 where
  pub some : (h : ℕ) → h < length weights → 1 ≤ slice_index weights h
  pub small : (h : ℕ) → h < length weights → slice_index weights h ≤ limit
