-- The rows of a scheme over a series and its steps exist where its plans and routings do, as statements.
use Rattle.std.specs.Prelude.{◌≡◌, ◌↔◌, ℕ, ◌<◌, ◌≤◌, All, Bool, IsTrue, List, Option, None, Some, length}
use Rattle.te_model.specs.declared.network.Network.{Network}
use Rattle.te_model.specs.declared.route.Pair.{Pair}
use Rattle.te_model.specs.declared.route.PairRoutes.{PairRoutes}
use Rattle.te_model.specs.Network.{is_well_formed, node_count}
use Rattle.routing.specs.Routes.{AreDemands, IsRoutingOf, HasFewPaths}
use Rattle.scheme.specs.Adaptive.{KeepsTo}
use Rattle.scheme.specs.Reach.{AllReached, ArePairsOf}
use Rattle.failure.specs.declared.outage.Failures.{Failures}
use Rattle.local_recovery.specs.Recovery.{is_clear}
use Rattle.traffic_matrix.specs.declared.traffic.Traffic.{Traffic}
use Rattle.traffic_matrix.specs.Traffic.{IsTraffic, known_traffic}
use Rattle.plan.specs.declared.recovery.Recovery.{Recovery}
use Rattle.series_simulation.specs.declared.step_row.SimulatedStep.{SimulatedStep}
use Rattle.series_simulation.specs.declared.step_row.StepRow.{StepRow}
use Rattle.series_simulation.specs.Rows.{AreStepRows, IsAdaptedOn, IsStepAt, step_row_at}

-- pairs of a network that all have a path have a plan
abbrev pub HasPlans : {Plan : Type 0} → (Network → List Pair → Plan → Type 0) → Type 0
HasPlans {Plan} is_plan =
    (net : Network) → IsTrue (is_well_formed net) → (pairs : List Pair) → ArePairsOf net pairs → AllReached net pairs →
    (plan : Plan) × is_plan net pairs plan

-- a plan and demands of its pairs have a routing within the number of paths, and a note
abbrev pub HasRoutings : {Plan Note : Type 0} → ℕ → (Network → List Pair → Plan → Type 0) →
    (Network → List Pair → Plan → List ℕ → List PairRoutes → Note → Type 0) → Type 0
HasRoutings {Plan} {Note} limit is_plan relates =
    (net : Network) → IsTrue (is_well_formed net) → (pairs : List Pair) (plan : Plan) → is_plan net pairs plan → ArePairsOf net pairs →
    (demand : List ℕ) → AreDemands (length pairs) demand →
    (routes : List PairRoutes) × (note : Note) × IsRoutingOf net pairs routes × HasFewPaths limit routes × relates net pairs plan demand routes note

-- the set of paths that a plan keeps is a routing within the number of paths, and routes over given paths of any of the pairs and demands
-- of these have a routing over these paths, and a bound or none
abbrev pub HasAdaptations : {Plan : Type 0} → ℕ → (Network → List Pair → Plan → Type 0) → (Plan → Option (List PairRoutes)) →
    (Network → List PairRoutes → List ℕ → List PairRoutes → Option ℕ → Type 0) → Type 0
HasAdaptations {Plan} limit is_plan path_set adapts =
    (net : Network) → IsTrue (is_well_formed net) → (pairs : List Pair) (plan : Plan) (paths : List PairRoutes) → is_plan net pairs plan → path_set plan ≡ Some paths →
    IsRoutingOf net pairs paths × HasFewPaths limit paths
    × ((some : List Pair) (given : List PairRoutes) (demand : List ℕ) → ArePairsOf net some → IsRoutingOf net some given → HasFewPaths limit given →
    AreDemands (length some) demand →
    (routes : List PairRoutes) × (bound : Option ℕ) × IsRoutingOf net some routes × HasFewPaths limit routes × KeepsTo given routes × adapts net given demand routes bound)

-- a series has rows, whatever fails and however traffic goes on
abbrev pub StepRowsExist : {Plan Note : Type 0} → ℕ → (Network → List Pair → Plan → Type 0) →
    (Network → List Pair → Plan → List ℕ → List PairRoutes → Note → Type 0) → (Note → Option ℕ) → (Plan → Option (List PairRoutes)) →
    (Network → List PairRoutes → List ℕ → List PairRoutes → Option ℕ → Type 0) → Type 0
StepRowsExist limit is_plan relates low path_set adapts =
    HasPlans is_plan → HasRoutings limit is_plan relates → HasAdaptations limit is_plan path_set adapts → limit ≤ 4096 → (net : Network) → IsTrue (is_well_formed net) →
    (traffic : Traffic) → IsTraffic (node_count net) traffic → (failures : Failures) (recovery : Recovery) →
    (rows : List StepRow) × AreStepRows limit is_plan relates low path_set adapts net traffic failures recovery rows

-- each step of a series exists, whatever fails and however traffic goes on
abbrev pub StepsExist : {Plan Note : Type 0} → ℕ → (Network → List Pair → Plan → Type 0) →
    (Network → List Pair → Plan → List ℕ → List PairRoutes → Note → Type 0) → (Note → Option ℕ) → (Plan → Option (List PairRoutes)) →
    (Network → List PairRoutes → List ℕ → List PairRoutes → Option ℕ → Type 0) → Type 0
StepsExist limit is_plan relates low path_set adapts =
    HasPlans is_plan → HasRoutings limit is_plan relates → HasAdaptations limit is_plan path_set adapts → limit ≤ 4096 → (net : Network) → IsTrue (is_well_formed net) →
    (traffic : Traffic) → IsTraffic (node_count net) traffic → (failures : Failures) (recovery : Recovery) (k : ℕ) → k < length traffic.sent.steps →
    (step : SimulatedStep) × IsStepAt limit is_plan relates low path_set adapts net traffic failures recovery k step

-- the row of each step of a series stands in rows of the series
abbrev pub StepsStandInRows : {Plan Note : Type 0} → ℕ → (Network → List Pair → Plan → Type 0) →
    (Network → List Pair → Plan → List ℕ → List PairRoutes → Note → Type 0) → (Note → Option ℕ) → (Plan → Option (List PairRoutes)) →
    (Network → List PairRoutes → List ℕ → List PairRoutes → Option ℕ → Type 0) → Type 0
StepsStandInRows limit is_plan relates low path_set adapts =
    HasPlans is_plan → HasRoutings limit is_plan relates → HasAdaptations limit is_plan path_set adapts → limit ≤ 4096 → (net : Network) → IsTrue (is_well_formed net) →
    (traffic : Traffic) → IsTraffic (node_count net) traffic → (failures : Failures) (recovery : Recovery) (k : ℕ) → k < length traffic.sent.steps →
    (step : SimulatedStep) → IsStepAt limit is_plan relates low path_set adapts net traffic failures recovery k step →
    (rows : List StepRow) × AreStepRows limit is_plan relates low path_set adapts net traffic failures recovery rows × (step_row_at rows k ≡ step.row)

-- a scheme that keeps one routing for every matrix, states no bound and chooses no rates anew, has just the rows that it has without predictions
abbrev pub PredictionsChangeNothing : {Plan Note : Type 0} → ℕ → (Network → List Pair → Plan → Type 0) →
    (Network → List Pair → Plan → List ℕ → List PairRoutes → Note → Type 0) → (Note → Option ℕ) → (Plan → Option (List PairRoutes)) →
    (Network → List PairRoutes → List ℕ → List PairRoutes → Option ℕ → Type 0) → Type 0
PredictionsChangeNothing {Plan} {Note} limit is_plan relates low path_set adapts =
    ((net : Network) (pairs : List Pair) (plan : Plan) (one other : List ℕ) (routes : List PairRoutes) (note : Note) →
    relates net pairs plan one routes note → relates net pairs plan other routes note) →
    ((note : Note) → low note ≡ None) → ((plan : Plan) → path_set plan ≡ None) → (net : Network) (traffic : Traffic) (failures : Failures) (recovery : Recovery) (rows : List StepRow) →
    AreStepRows limit is_plan relates low path_set adapts net traffic failures recovery rows ↔
    AreStepRows limit is_plan relates low path_set adapts net (known_traffic traffic.sent) failures recovery rows

-- rates that are chosen anew hold no failed link
abbrev pub AdaptedRatesStand : {Plan Note : Type 0} → ℕ → (Network → List Pair → Plan → Type 0) →
    (Network → List Pair → Plan → List ℕ → List PairRoutes → Note → Type 0) → (Note → Option ℕ) → (Plan → Option (List PairRoutes)) →
    (Network → List PairRoutes → List ℕ → List PairRoutes → Option ℕ → Type 0) → Type 0
AdaptedRatesStand {Plan} limit is_plan relates low path_set adapts =
    (net : Network) (failed : List Bool) (pairs : List Pair) (predicted : Option (List ℕ)) (demand : List ℕ) (plan : Plan) (paths routes : List PairRoutes)
    (most : ℕ) (bound : Option ℕ) → IsAdaptedOn limit is_plan relates low path_set adapts net failed pairs predicted demand plan paths routes most bound →
    All (λ r. All (λ s. IsTrue (is_clear failed s)) r.paths) routes
