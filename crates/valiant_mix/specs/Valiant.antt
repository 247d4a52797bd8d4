-- Each pair goes in even parts by way of every node (a scheme for fast parallel communication; Valiant, 1982).
use Rattle.std.specs.Prelude.{◌≡◌, ◌⊎◌, ℕ, zero, suc, List, [], ◌∷◌, ◌++◌, Some}
use Rattle.te_model.specs.declared.network.Network.{Network}
use Rattle.te_model.specs.declared.route.Pair.{Pair}
use Rattle.te_model.specs.declared.route.PathShare.{PathShare}
use Rattle.te_model.specs.Network.{node_count}
use Rattle.shortest_path.specs.Costs.{costs_of}
use Rattle.shortest_path.specs.Paths.{IsLeastPath}
use Rattle.routing.specs.Even.{IsEvenMix}
use Rattle.routing.specs.Loops.{IsCut}

-- the least path by cost from s to t, or no link where they are one node
abbrev pub IsLeg : Network → ℕ → ℕ → List ℕ → Type 0
IsLeg net s t links = ((s ≡ t) × (links ≡ [])) ⊎ ((s ≡ t → ⊥) × IsLeastPath net (costs_of net) s t (Some links))

-- the walk over m without its loops
abbrev pub IsDetour : Network → ℕ → ℕ → ℕ → List ℕ → Type 0
IsDetour net s t m path = (there : List ℕ) × (on : List ℕ) × IsLeg net s m there × IsLeg net m t on × IsCut net s (there ++ on) path

-- the detours over the first n nodes, in order, those to which or from which no path leads left out
abbrev pub AreDetours : Network → ℕ → ℕ → ℕ → List (List ℕ) → Type 0
AreDetours net s t zero paths = paths ≡ []
AreDetours net s t (suc n) paths =
    (((path : List ℕ) → IsDetour net s t n path → ⊥) × AreDetours net s t n paths)
    ⊎ ((earlier : List (List ℕ)) × (path : List ℕ) × AreDetours net s t n earlier × IsDetour net s t n path × (paths ≡ earlier ++ path ∷ []))

-- the demand of a pair in even parts over its detours, equal ones taken together
abbrev pub IsValiantSplit : Network → Pair → List PathShare → Type 0
IsValiantSplit net pair shares = (paths : List (List ℕ)) × AreDetours net pair.src pair.dst (node_count net) paths × IsEvenMix paths shares
