-- Routings of one pair over two parallel links.
use Rattle.std.specs.Prelude.{List, [], ◌∷◌}
use Rattle.te_model.specs.declared.route.PairRoutes.{PairRoutes}
use Rattle.sample_networks.specs.Literals.{routes_of, share_of}

-- half of the demand over each link
abbrev pub halves : List PairRoutes
halves = routes_of 0 1 (share_of (0 ∷ []) 500000 ∷ share_of (1 ∷ []) 500000 ∷ []) ∷ []

-- all of the demand over the first link
abbrev pub first_alone : List PairRoutes
first_alone = routes_of 0 1 (share_of (0 ∷ []) 1000000 ∷ []) ∷ []
