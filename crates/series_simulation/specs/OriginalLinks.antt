-- Routings of a part of a network, by the link numbers of the whole network.
use Rattle.std.specs.Prelude.{ℕ, ◌<◌, List, All, map, slice_index}
use Rattle.te_model.specs.declared.route.PathShare.{PathShare}
use Rattle.te_model.specs.declared.route.PairRoutes.{PairRoutes}

-- the path over the links with these numbers in the whole network
abbrev pub original_path : List ℕ → PathShare → PathShare
original_path origin s = record { links = map (slice_index origin) s.links; weight = s.weight }

abbrev pub original_pair : List ℕ → PairRoutes → PairRoutes
original_pair origin r = record { pair = r.pair; paths = map (original_path origin) r.paths }

-- the same pairs, paths and weights
abbrev pub original_routes : List ℕ → List PairRoutes → List PairRoutes
original_routes origin routes = map (original_pair origin) routes

-- the links of each path are below the count
abbrev pub HasLinksBelow : ℕ → PathShare → Type 0
HasLinksBelow count s = All (λ h. h < count) s.links

abbrev pub HavePathsBelow : ℕ → PairRoutes → Type 0
HavePathsBelow count r = All (HasLinksBelow count) r.paths
