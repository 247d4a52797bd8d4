-- What stands of a set of paths where links have failed, and the demands of the pairs of which a path stands.
use Rattle.std.specs.Prelude.{ℕ, Bool, not, List, filter, length, map, ◌==◌}
use Rattle.te_model.specs.declared.route.PairRoutes.{PairRoutes}
use Rattle.local_recovery.specs.Recovery.{scaled_routes}
use Rattle.series_simulation.specs.Connected.{demands_of}

-- whether the pair has a path
abbrev pub has_some_path : PairRoutes → Bool
has_some_path r = not (length r.paths == 0)

-- the paths without a failed link, with weights that are scaled to one million, of those pairs that have such a path
abbrev pub standing_routes : List Bool → List PairRoutes → List PairRoutes
standing_routes failed routes = filter has_some_path (map (scaled_routes failed) routes)

-- the demands of these pairs, out of those of all pairs of the routes
abbrev pub standing_demands : List Bool → List PairRoutes → List ℕ → List ℕ
standing_demands failed routes demand = demands_of has_some_path (map (scaled_routes failed) routes) demand
