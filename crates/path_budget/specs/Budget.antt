-- The heaviest paths of each pair, as a budget of forwarding entries allows (SMORE; Kumar et al., 2018).
use Rattle.std.specs.Prelude.{ℕ, zero, suc, Bool, List, [], ◌∷◌, ◌++◌, length, map, if◌then◌else◌}
use Rattle.te_model.specs.declared.route.PathShare.{PathShare}
use Rattle.te_model.specs.declared.route.PairRoutes.{PairRoutes}
use Rattle.te_model.specs.Apportion.{is_among_first}
use Rattle.routing.specs.Merge.{path_at}
use Rattle.routing.specs.Normal.{with_whole_weight}

abbrev pub weight_at : List PathShare → ℕ → ℕ
weight_at paths i = (path_at paths i).weight

-- whether fewer than `budget` paths come before the one at place i: by the greater weight, and at the same weight by the place
abbrev pub is_heavy : ℕ → List PathShare → ℕ → Bool
is_heavy budget paths i = is_among_first (length paths) (weight_at paths) budget i

-- the heavy ones among the first n paths, in their order
abbrev pub heavy_below : ℕ → List PathShare → ℕ → List PathShare
heavy_below budget paths zero = []
heavy_below budget paths (suc n) = if is_heavy budget paths n then heavy_below budget paths n ++ path_at paths n ∷ [] else heavy_below budget paths n

abbrev pub heaviest : ℕ → List PathShare → List PathShare
heaviest budget paths = heavy_below budget paths (length paths)

-- the heaviest paths of the pair, their weights scaled to the unit of shares
abbrev pub trimmed_pair : ℕ → PairRoutes → PairRoutes
trimmed_pair budget r = record { pair = r.pair; paths = with_whole_weight (heaviest budget r.paths) }

abbrev pub trimmed_routes : ℕ → List PairRoutes → List PairRoutes
trimmed_routes budget routes = map (trimmed_pair budget) routes
