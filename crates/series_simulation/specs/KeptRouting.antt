-- The rows of a routing that is kept for every matrix, as rows of a scheme.
use Rattle.std.specs.Prelude.{◌≡◌, ◌<◌, ℕ, Bool, IsTrue, List, Option, None, ⊤, length, map}
use Rattle.te_model.specs.declared.network.Network.{Network}
use Rattle.te_model.specs.declared.route.Pair.{Pair}
use Rattle.te_model.specs.declared.route.PairRoutes.{PairRoutes}
use Rattle.te_model.specs.Network.{is_well_formed, node_count}
use Rattle.routing.specs.Routes.{HasFewPaths, IsRoutingOf}
use Rattle.routing.specs.Utilisation.{parts}
use Rattle.failure.specs.declared.outage.Failures.{Failures}
use Rattle.traffic_matrix.specs.declared.series.Series.{Series}
use Rattle.traffic_matrix.specs.Limits.{IsSeries}
use Rattle.traffic_matrix.specs.Traffic.{demands_in, known_traffic}
use Rattle.plan.specs.declared.recovery.Recovery.{Recovery}
use Rattle.plan.specs.declared.recovery.Recovery.TheVariants.{Keep, Scale, Bypass, Reroute, Adapt}
use Rattle.series_simulation.specs.declared.step_row.StepRow.{StepRow}
use Rattle.series_simulation.specs.Rows.{AreStepRows, IsStepRow, step_row_at}

-- nothing is planned
abbrev pub IsNoPlan : Network → List Pair → ⊤ → Type 0
IsNoPlan net pairs plan = ⊤

-- the routing of every matrix is this one
abbrev pub IsKept : List PairRoutes → Network → List Pair → ⊤ → List ℕ → List PairRoutes → ⊤ → Type 0
IsKept routes net pairs plan demand own note = own ≡ routes

-- no bound is stated
abbrev pub no_bound : ⊤ → Option ℕ
no_bound note = None

-- no rates are chosen anew
abbrev pub no_path_set : ⊤ → Option (List PairRoutes)
no_path_set plan = None

abbrev pub IsNeverAdapted : Network → List PairRoutes → List ℕ → List PairRoutes → Option ℕ → Type 0
IsNeverAdapted net given demand routes bound = ⊥

-- a routing that is kept is not made anew, nor are its rates: what is left of it is scaled
abbrev pub without_rerouting : Recovery → Recovery
without_rerouting Keep = Keep
without_rerouting Scale = Scale
without_rerouting Bypass = Bypass
without_rerouting Reroute = Scale
without_rerouting Adapt = Scale

-- the row of a step, of at most 4,096 paths of each pair
abbrev pub IsKeptRow : List PairRoutes → Network → List Bool → List Pair → List ℕ → Recovery → StepRow → Type 0
IsKeptRow routes net failed pairs demand recovery row =
    IsStepRow 4096 IsNoPlan (IsKept routes) no_bound no_path_set IsNeverAdapted net failed pairs None demand (without_rerouting recovery) tt row

-- one row for each step of a series, in order
abbrev pub AreKeptRows : List PairRoutes → Network → Series → Failures → Recovery → List StepRow → Type 0
AreKeptRows routes net series failures recovery rows =
    AreStepRows 4096 IsNoPlan (IsKept routes) no_bound no_path_set IsNeverAdapted net (known_traffic series) failures (without_rerouting recovery) rows

-- each step has a row, whatever fails
abbrev pub KeptRowsExist : Type 0
KeptRowsExist =
    (routes : List PairRoutes) (net : Network) (series : Series) (failures : Failures) (recovery : Recovery) → IsTrue (is_well_formed net) →
    IsSeries (node_count net) series → IsRoutingOf net series.pairs.list routes → HasFewPaths 4096 routes →
    (rows : List StepRow) × AreKeptRows routes net series failures recovery rows

-- the greatest utilisation of each row is that of the routing by the step's demands, whichever links fail
abbrev pub KeptRowsHaveParts : Type 0
KeptRowsHaveParts =
    (routes : List PairRoutes) (net : Network) (series : Series) (failures : Failures) (recovery : Recovery) (rows : List StepRow) →
    IsSeries (node_count net) series → map (λ r. r.pair) routes ≡ series.pairs.list → AreKeptRows routes net series failures recovery rows →
    (k : ℕ) → k < length rows → (step_row_at rows k).parts ≡ parts net routes (demands_in series k)
