-- Weighted paths whose weights are scaled to sum to the unit of shares.
use Rattle.std.specs.Prelude.{ℕ, List, [], ◌∷◌, map}
use Rattle.te_model.specs.declared.route.PathShare.{PathShare}
use Rattle.te_model.specs.declared.units.TheConstants.{SHARE_UNIT}
use Rattle.te_model.specs.Apportion.{apportion}

-- each path with its weight
abbrev pub weighted_paths : List (List ℕ) → List ℕ → List PathShare
weighted_paths [] weights = []
weighted_paths (p ∷ ps) [] = []
weighted_paths (p ∷ ps) (w ∷ ws) = record { links = p; weight = w } ∷ weighted_paths ps ws

-- the unit in whole parts by the weights, the units left over going to the largest remainders
abbrev pub with_whole_weight : List PathShare → List PathShare
with_whole_weight parts = weighted_paths (map (λ s. s.links) parts) (apportion SHARE_UNIT (map (λ s. s.weight) parts))
