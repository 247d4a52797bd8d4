-- What exists of plans and routings of multicommodity flow, as statements.
use Rattle.std.specs.Prelude.{ℕ, List, IsTrue, length}
use Rattle.te_model.specs.declared.network.Network.{Network}
use Rattle.te_model.specs.declared.route.Pair.{Pair}
use Rattle.te_model.specs.declared.route.PairRoutes.{PairRoutes}
use Rattle.te_model.specs.declared.bracket.Bracket.{Bracket}
use Rattle.te_model.specs.Network.{is_well_formed}
use Rattle.routing.specs.Routes.{AreDemands, HasFewPaths, IsRoutingOf}
use Rattle.scheme.specs.Low.{HasLow}
use Rattle.scheme.specs.Reach.{AllReached, ArePairsOf}
use Rattle.mcf_lengths.specs.declared.flow.McfPlan.{McfPlan}
use Rattle.mcf_lengths.specs.Flow.{IsBalanced, IsFlowPlan}

-- Pairs of a network have a plan where each has a path.
abbrev pub FlowPlansExist : Type 0
FlowPlansExist =
    (net : Network) (pairs : List Pair) → IsTrue (is_well_formed net) → ArePairsOf net pairs → AllReached net pairs →
    (plan : McfPlan) × IsFlowPlan net pairs plan

-- By a plan each matrix has a balanced routing of at most 32 paths for a pair, with its bracket.
abbrev pub BalancedRoutingsExist : Type 0
BalancedRoutingsExist =
    (net : Network) (pairs : List Pair) (plan : McfPlan) (demand : List ℕ) → IsTrue (is_well_formed net) → IsFlowPlan net pairs plan →
    AreDemands (length pairs) demand →
    (routes : List PairRoutes) × (note : Bracket) × IsRoutingOf net pairs routes × HasFewPaths 32 routes
    × IsBalanced net pairs plan.candidates.routes demand routes note × HasLow note
