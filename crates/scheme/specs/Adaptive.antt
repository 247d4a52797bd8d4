-- Routings over given paths.
use Rattle.std.specs.Prelude.{◌≡◌, ℕ, List, Option, None}
use Rattle.te_model.specs.declared.route.PairRoutes.{PairRoutes}
use Rattle.te_model.specs.Path.{routes_at}
use Rattle.routing.specs.Merge.{HasLinks}

-- each path of a pair is one of its given paths
abbrev pub KeepsTo : List PairRoutes → List PairRoutes → Type 0
KeepsTo given routes =
    (p : ℕ) (links : List ℕ) → HasLinks (routes_at routes p).paths links → HasLinks (routes_at given p).paths links

-- the given rates, of which no bound is stated: what a scheme has that chooses no rates anew
abbrev pub AreGivenRates : List PairRoutes → List PairRoutes → Option ℕ → Type 0
AreGivenRates given routes low = (routes ≡ given) × (low ≡ None)
