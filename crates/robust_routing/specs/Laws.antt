-- What exists of plans, as a statement.
use Rattle.std.specs.Prelude.{ℕ, IsTrue, List}
use Rattle.te_model.specs.declared.network.Network.{Network}
use Rattle.te_model.specs.declared.route.Pair.{Pair}
use Rattle.te_model.specs.Network.{is_well_formed}
use Rattle.scheme.specs.Reach.{AllReached, ArePairsOf}
use Rattle.robust_routing.specs.declared.robust.RobustPlan.{RobustPlan}
use Rattle.robust_routing.specs.Robust.{IsRobustPlan, ways_of}

-- pairs of a well-formed network that have paths have a plan within each limit
abbrev pub RobustPlansExist : Type 0
RobustPlansExist =
    (net : Network) → IsTrue (is_well_formed net) → (pairs : List Pair) → ArePairsOf net pairs → AllReached net pairs → (asked : ℕ) →
    (plan : RobustPlan) × IsRobustPlan (ways_of asked) net pairs plan
