-- The unit of shares in even parts over paths (apportioned by largest remainders; Hamilton, 1792).
use Rattle.std.specs.Prelude.{ℕ, List, map}
use Rattle.te_model.specs.declared.route.PathShare.{PathShare}
use Rattle.routing.specs.Merge.{IsMerge}
use Rattle.routing.specs.Normal.{with_whole_weight}

abbrev pub of_weight_one : List (List ℕ) → List PathShare
of_weight_one paths = map (λ links. record { links = links; weight = 1 }) paths

-- the unit of shares is apportioned evenly over the paths, in their order, and equal paths are taken together
abbrev pub IsEvenMix : List (List ℕ) → List PathShare → Type 0
IsEvenMix paths merged = IsMerge (with_whole_weight (of_weight_one paths)) merged
