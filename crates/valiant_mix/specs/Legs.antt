-- The least paths by cost from each node to several nodes.
use Rattle.std.specs.Prelude.{◌≡◌, ℕ, ◌<◌, List, [], Option, None, MatchOption, length, slice_index_or}
use Rattle.te_model.specs.declared.network.Network.{Network}
use Rattle.te_model.specs.declared.route.Path.{Path}
use Rattle.te_model.specs.Network.{node_count}
use Rattle.valiant_mix.specs.declared.legs.Legs.{Legs}
use Rattle.valiant_mix.specs.Valiant.{IsLeg}

-- the leg from s to t, or none where there is none
abbrev pub IsLegOrNone : Network → ℕ → ℕ → Option Path → Type 0
IsLegOrNone net s t leg = MatchOption leg ((links : List ℕ) → IsLeg net s t links → ⊥) (λ p. IsLeg net s t p.links)

abbrev pub leg_at : List (Option Path) → ℕ → Option Path
leg_at list s = slice_index_or list s None

-- the legs to node t from each of the first n nodes
pub record AreLegsTo (net : Network) (t n : ℕ) (list : List (Option Path)) : Type 0 where
  pub count : length list ≡ n
  pub each : (s : ℕ) → s < n → IsLegOrNone net s t (leg_at list s)

-- what stands for legs that are not there
abbrev pub no_legs : Legs
no_legs = record { sources = [] }

abbrev pub legs_at : List Legs → ℕ → Legs
legs_at list t = slice_index_or list t no_legs

-- the legs from every node to each of the first n nodes
pub record AreLegsToEach (net : Network) (n : ℕ) (list : List Legs) : Type 0 where
  pub count : length list ≡ n
  pub each : (t : ℕ) → t < n → AreLegsTo net t (node_count net) (legs_at list t).sources
