-- The rows of a report: a scheme routes the matrix of each step, and the step is simulated (after YATES; Kumar et al., 2018).
use Rattle.std.specs.Prelude.{ℕ, ◌≡◌, ◌<◌, Bool, false, List, [], length, filter, Option, Some, None, MatchBool, MatchOption, slice_index_or, if◌then◌else◌}
use Rattle.std.specs.List.{list_any}
use Rattle.te_model.specs.declared.network.Network.{Network}
use Rattle.te_model.specs.declared.route.Pair.{Pair}
use Rattle.te_model.specs.declared.route.PairRoutes.{PairRoutes}
use Rattle.routing.specs.Routes.{AreDemands, IsRoutingOf, HasFewPaths}
use Rattle.routing.specs.Utilisation.{parts}
use Rattle.failure.specs.declared.outage.Failures.{Failures}
use Rattle.failure.specs.Series.{marks_of}
use Rattle.failure.specs.Survivor.{survivor_of}
use Rattle.local_recovery.specs.declared.mode.Mode.{Mode}
use Rattle.local_recovery.specs.declared.mode.Mode.TheVariants as mode
use Rattle.local_recovery.specs.Rates.{pairs_of}
use Rattle.scheme.specs.Adaptive.{KeepsTo}
use Rattle.traffic_matrix.specs.declared.traffic.Traffic.{Traffic}
use Rattle.traffic_matrix.specs.Traffic.{predicted_in, sent_in}
use Rattle.plan.specs.declared.recovery.Recovery.{Recovery}
use Rattle.plan.specs.declared.recovery.Recovery.TheVariants.{Keep, Scale, Bypass, Reroute, Adapt}
use Rattle.series_simulation.specs.declared.step_row.SimulatedStep.{SimulatedStep}
use Rattle.series_simulation.specs.declared.step_row.StepRow.{StepRow}
use Rattle.series_simulation.specs.Connected.{TellsPaths, demands_of}
use Rattle.series_simulation.specs.OriginalLinks.{original_routes}
use Rattle.series_simulation.specs.Simulation.{IsSimulated, peak_of}
use Rattle.series_simulation.specs.StandingPaths.{standing_demands, standing_routes}

-- the demands that a scheme is given in a step: those that are predicted for it, or those that are sent
abbrev pub given_demands : Option (List ℕ) → List ℕ → List ℕ
given_demands None sent = sent
given_demands (Some predicted) sent = predicted

-- the demands that are predicted, if any are, are one for each pair
abbrev pub AreDemandsIfSome : ℕ → Option (List ℕ) → Type 0
AreDemandsIfSome pairs None = Unit {0}
AreDemandsIfSome pairs (Some demand) = AreDemands pairs demand

-- the bound of what is sent: a bound for predicted demands is none for it
abbrev pub bound_of_sent : Option (List ℕ) → Option ℕ → Option ℕ
bound_of_sent None bound = bound
bound_of_sent (Some predicted) bound = None

-- how traffic goes on where links of its paths have failed; a routing that is made anew is kept, and nothing is dropped of rates that are
-- chosen anew over paths that stand
abbrev pub mode_of : Recovery → Mode
mode_of Keep = mode.Keep
mode_of Scale = mode.Scale
mode_of Bypass = mode.Bypass
mode_of Reroute = mode.Keep
mode_of Adapt = mode.Scale

-- whether the scheme is prepared anew: by this recovery, where some link has failed
abbrev pub is_rerouted : Recovery → List Bool → Bool
is_rerouted Keep failed = false
is_rerouted Scale failed = false
is_rerouted Bypass failed = false
is_rerouted Reroute failed = list_any (λ mark. mark) failed
is_rerouted Adapt failed = false

-- the routes over whose paths rates are chosen anew: those over the set of paths that a plan keeps, if it keeps one, by this recovery and
-- where some link has failed
abbrev pub paths_to_adapt : Recovery → List Bool → Option (List PairRoutes) → Option (List PairRoutes)
paths_to_adapt Keep failed path_set = None
paths_to_adapt Scale failed path_set = None
paths_to_adapt Bypass failed path_set = None
paths_to_adapt Reroute failed path_set = None
paths_to_adapt Adapt failed path_set = if list_any (λ mark. mark) failed then path_set else None

-- what stands for a row that is not there
abbrev pub no_row : StepRow
no_row = record {
  step = 0;
  result = record { offered = 0; delivered = 0; lost_full = 0; lost_failed = 0; lost_no_path = 0; carried = []; per_pair = [] };
  peak = 0;
  parts = 0;
  low = None;
}

abbrev pub step_row_at : List StepRow → ℕ → StepRow
step_row_at rows k = slice_index_or rows k no_row

-- Of a scheme: the greatest number of paths of a pair, of which network and pairs a plan is, how a plan, demands, a routing and a note
-- stand to one another, and the lower bound that a note states.
module _ {Plan Note : Type 0} (limit : ℕ) (is_plan : Network → List Pair → Plan → Type 0)
    (relates : Network → List Pair → Plan → List ℕ → List PairRoutes → Note → Type 0) (low : Note → Option ℕ) where
  -- the scheme's routing of the pairs that have a path in the network and of the matrix of these pairs that it is given, by a plan for
  -- them, within its number of paths, with its greatest utilisation by what is sent and the bound of that
  pub record IsRouted (net : Network) (pairs : List Pair) (predicted : Option (List ℕ)) (demand : List ℕ) (plan : Plan) (routes : List PairRoutes) (most : ℕ) (bound : Option ℕ) : Type 0 where
    pub has_path : Pair → Bool
    pub tells : TellsPaths net has_path
    pub planned : is_plan net (filter has_path pairs) plan
    pub routing : IsRoutingOf net (filter has_path pairs) routes
    pub few : HasFewPaths limit routes
    pub note : Note
    pub related : relates net (filter has_path pairs) plan (demands_of has_path pairs (given_demands predicted demand)) routes note
    pub most_is : most ≡ parts net routes (demands_of has_path pairs demand)
    pub bound_is : bound ≡ bound_of_sent predicted (low note)

  -- the same for the network that is left of failed links, by a plan of its own, and then by the numbers that its links had before
  pub record IsReroutedOn (net : Network) (failed : List Bool) (pairs : List Pair) (predicted : Option (List ℕ)) (demand : List ℕ)
      (routes : List PairRoutes) (most : ℕ) (bound : Option ℕ) : Type 0 where
    pub plan : Plan
    pub own : List PairRoutes
    pub routed : IsRouted (survivor_of net failed).network pairs predicted demand plan own most bound
    pub mapped : routes ≡ original_routes (survivor_of net failed).origin own

-- Of a scheme besides: the routes over the set of paths that a plan keeps, if it keeps one, and how routes over given paths, demands, a
-- routing over these paths and the lower bound of every such routing, if there is one, stand to one another.
module _ {Plan Note : Type 0} (limit : ℕ) (is_plan : Network → List Pair → Plan → Type 0)
    (relates : Network → List Pair → Plan → List ℕ → List PairRoutes → Note → Type 0) (low : Note → Option ℕ)
    (path_set : Plan → Option (List PairRoutes)) (adapts : Network → List PairRoutes → List ℕ → List PairRoutes → Option ℕ → Type 0) where
  -- The scheme's rates over those paths of a plan's set that hold no failed link, for the pairs that keep such a path and the demands of
  -- these pairs that it is given, with their greatest utilisation by what is sent and the bound of that. No failed link has a load.
  pub record IsAdaptedOn (net : Network) (failed : List Bool) (pairs : List Pair) (predicted : Option (List ℕ)) (demand : List ℕ)
      (plan : Plan) (paths : List PairRoutes) (routes : List PairRoutes) (most : ℕ) (bound : Option ℕ) : Type 0 where
    pub has_path : Pair → Bool
    pub tells : TellsPaths net has_path
    pub planned : is_plan net (filter has_path pairs) plan
    pub routing : IsRoutingOf net (pairs_of (standing_routes failed paths)) routes
    pub few : HasFewPaths limit routes
    pub keeps : KeepsTo (standing_routes failed paths) routes
    pub bound_of_given : Option ℕ
    pub adapted : adapts net (standing_routes failed paths) (standing_demands failed paths (demands_of has_path pairs (given_demands predicted demand)))
        routes bound_of_given
    pub most_is : most ≡ parts net routes (standing_demands failed paths (demands_of has_path pairs demand))
    pub bound_is : bound ≡ bound_of_sent predicted bound_of_given

  -- the routing of a step by a plan for the whole network: the scheme's, or rates that are chosen anew
  abbrev pub IsRoutedByPlan : Network → List Bool → List Pair → Option (List ℕ) → List ℕ → Recovery → Plan → List PairRoutes → ℕ → Option ℕ → Type 0
  IsRoutedByPlan net failed pairs predicted demand recovery plan routes most bound =
      MatchOption (paths_to_adapt recovery failed (path_set plan)) (IsRouted limit is_plan relates low net pairs predicted demand plan routes most bound)
      (λ paths. IsAdaptedOn net failed pairs predicted demand plan paths routes most bound)

  -- the routing of a step
  abbrev pub IsStepRouting : Network → List Bool → List Pair → Option (List ℕ) → List ℕ → Recovery → Plan → List PairRoutes → ℕ → Option ℕ → Type 0
  IsStepRouting net failed pairs predicted demand recovery plan routes most bound =
      MatchBool (is_rerouted recovery failed) (IsReroutedOn limit is_plan relates low net failed pairs predicted demand routes most bound)
      (IsRoutedByPlan net failed pairs predicted demand recovery plan routes most bound)

  -- a step, by a plan for the whole network: the rates that its demands take, after any recovery, and its row
  pub record IsStep (net : Network) (failed : List Bool) (pairs : List Pair) (predicted : Option (List ℕ)) (demand : List ℕ)
      (recovery : Recovery) (plan : Plan) (rates : List PairRoutes) (row : StepRow) : Type 0 where
    pub routes : List PairRoutes
    pub routed : IsStepRouting net failed pairs predicted demand recovery plan routes row.parts row.low
    pub simulated : IsSimulated (mode_of recovery) net failed pairs demand routes rates row.result
    pub peak_is : row.peak ≡ peak_of net row.result.carried

  -- the row of a step
  abbrev pub IsStepRow : Network → List Bool → List Pair → Option (List ℕ) → List ℕ → Recovery → Plan → StepRow → Type 0
  IsStepRow net failed pairs predicted demand recovery plan row = (rates : List PairRoutes) × IsStep net failed pairs predicted demand recovery plan rates row

  -- one row for each step of the traffic, in order; one plan serves all steps for which the scheme is not prepared anew
  pub record AreStepRows (net : Network) (traffic : Traffic) (failures : Failures) (recovery : Recovery) (rows : List StepRow) : Type 0 where
    pub plan : Plan
    pub count : length rows ≡ length traffic.sent.steps
    pub steps : (k : ℕ) → k < length rows → (step_row_at rows k).step ≡ k
    pub each : (k : ℕ) → k < length rows →
        IsStepRow net (marks_of net failures k) traffic.sent.pairs.list (predicted_in traffic k) (sent_in traffic k) recovery plan (step_row_at rows k)

  -- step k of the traffic, by some plan
  pub record IsStepAt (net : Network) (traffic : Traffic) (failures : Failures) (recovery : Recovery) (k : ℕ) (step : SimulatedStep) : Type 0 where
    pub plan : Plan
    pub number : step.row.step ≡ k
    pub is_step : IsStep net (marks_of net failures k) traffic.sent.pairs.list (predicted_in traffic k) (sent_in traffic k) recovery plan step.rates.routes step.row
