-- Weights that a step has moved are within the limits of searches and blocks.
use Rattle.std.proofs.Common.{ℕ, ◌^◌, ◌≤◌, List, arith}
use Rattle.std.specs.Prelude.{All}
use Rattle.std.proofs.lemmas.List.Elements.{All-from_get_or}
use Rattle.centred_steps.specs.Weights.{AreWeightsUpTo}

pub weights_small : (weights : List ℕ) → AreWeightsUpTo (2 ^ 27) weights → All (λ w. w ≤ 2 ^ 28) weights
weights_small weights are = All-from_get_or (λ w. w ≤ 2 ^ 28) weights 0 (λ h below. let small = are.small h below in omega (arith, small))

pub weights_positive : (weights : List ℕ) → AreWeightsUpTo (2 ^ 27) weights → All (λ w. 1 ≤ w) weights
weights_positive weights are = All-from_get_or (λ w. 1 ≤ w) weights 0 (λ h below. are.some h below)
