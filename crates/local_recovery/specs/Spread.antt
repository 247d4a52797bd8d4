-- Rates over more pairs than they have.
use Rattle.std.specs.Prelude.{◌≡◌, ◌⊎◌, Bool, All, ◌++◌, ◌∷◌, List, [], filter}
use Rattle.std.specs.List.{Contains}
use Rattle.te_model.specs.declared.route.Pair.{Pair}
use Rattle.te_model.specs.declared.route.PairRoutes.{PairRoutes}
use Rattle.local_recovery.specs.Rates.{pairs_of}

-- the second list holds those of the first, in order
abbrev pub IsSublist : List Pair → List Pair → Type 0
IsSublist few many = (test : Pair → Bool) × (few ≡ filter test many)

-- routes over these pairs, in which each pair keeps its paths, and the others have none
pub record IsSpread (pairs : List Pair) (before after : List PairRoutes) : Type 0 where
  pub pairs_are : pairs_of after ≡ pairs
  pub kept : All (Contains after) before
  pub added : All (λ r. Contains before r ⊎ (r.paths ≡ [])) after

-- the last of the routes that are left, if they are the pair's, or else none for it
abbrev pub IsTaken : Pair → List PairRoutes → List PairRoutes → PairRoutes → Type 0
IsTaken pair old new routes =
    ((old ≡ new ++ routes ∷ []) × (routes.pair ≡ pair))
    ⊎ ((new ≡ old) × (routes ≡ record { pair = pair; paths = [] })
    × ((front : List PairRoutes) (last : PairRoutes) → old ≡ front ++ last ∷ [] → last.pair ≡ pair → ⊥))
