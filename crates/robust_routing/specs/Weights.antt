-- Weights of the links for each link.
use Rattle.std.specs.Prelude.{◌≡◌, ℕ, ◌^◌, All, List, length}
use Rattle.te_model.specs.declared.network.Network.{Network}
use Rattle.te_model.specs.Network.{link_count}
use Rattle.centred_steps.specs.Weights.{AreWeightsUpTo}

-- one weight for each link, from 1 to 2^27
pub record AreLinkWeights (net : Network) (weights : List ℕ) : Type 0 where
  pub count : length weights ≡ link_count net
  pub limits : AreWeightsUpTo (2 ^ 27) weights

-- such weights for each link
pub record AreWeightsOfLinks (net : Network) (list : List (List ℕ)) : Type 0 where
  pub count : length list ≡ link_count net
  pub each : All (AreLinkWeights net) list
