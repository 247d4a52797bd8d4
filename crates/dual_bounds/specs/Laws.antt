-- Laws of brackets, as statements.
use Rattle.std.specs.Prelude.{◌≡◌, ℕ, ◌^◌, ◌<◌, List, IsTrue, length, slice_index}
use Rattle.te_model.specs.declared.network.Network.{Network}
use Rattle.te_model.specs.declared.route.PairRoutes.{PairRoutes}
use Rattle.te_model.specs.declared.bracket.Bracket.{Bracket}
use Rattle.te_model.specs.Laws.{PairsJoinNodes}
use Rattle.te_model.specs.LowerBound.{IsLowerBound, IsLowerBoundOnPaths}
use Rattle.te_model.specs.Network.{is_well_formed}
use Rattle.te_model.specs.PathRouting.{IsPathRouting}
use Rattle.routing.specs.Routes.{AreDemands}
use Rattle.scheme.specs.Low.{HasLow}
use Rattle.dual_bounds.specs.Rows.{IsBracket}
use Rattle.dual_bounds.specs.GivenPaths.{IsBracketOnPaths, link_lists}

-- A routing of a matrix has a bracket whose bound from below holds for every routing of the matrix.
abbrev pub BracketsExist : Type 0
BracketsExist =
    (net : Network) (routes : List PairRoutes) (demand : List ℕ) → IsTrue (is_well_formed net) → IsPathRouting net routes → PairsJoinNodes net routes →
    length routes < 2 ^ 32 → AreDemands (length routes) demand →
    (b : Bracket) × IsBracket net routes demand b × IsLowerBound net routes (slice_index demand) b.low_num b.low_den × HasLow b

-- It has one whose bound from below holds for every split over the paths of a fixed routing.
abbrev pub BracketsOnPathsExist : Type 0
BracketsOnPathsExist =
    (net : Network) (fixed routes : List PairRoutes) (demand : List ℕ) → IsTrue (is_well_formed net) → IsPathRouting net fixed →
    length routes ≡ length fixed → length fixed < 2 ^ 32 → AreDemands (length fixed) demand →
    (b : Bracket) × IsBracketOnPaths net fixed routes demand b
    × IsLowerBoundOnPaths net (length fixed) (link_lists fixed) (slice_index demand) b.low_num b.low_den × HasLow b
