-- Each step of a series has rates and a row, where the scheme's plans and routings exist.
use Rattle.std.proofs.Common.{◌≡◌, ◌⊎◌, ◌↔◌, ℕ, ◌<◌, ◌≤◌, Bool, true, false, Option, None, Some, List, [], ◌∷◌, length, filter, arith, refl, sym, subst, ◌∙◌, inl, inr}
use Rattle.std.specs.Prelude.{MatchBool, MatchOption, sum_by}
use Rattle.std.proofs.lemmas.Bool.{false≢true}
use Rattle.std.proofs.lemmas.List.{length-map}
use Rattle.std.proofs.lemmas.List.Elements.{All-weaker}
use Rattle.te_model.specs.declared.network.Network.{Network}
use Rattle.te_model.specs.declared.route.Pair.{Pair}
use Rattle.te_model.specs.declared.route.PairRoutes.{PairRoutes}
use Rattle.te_model.specs.Network.{is_well_formed, link_count, node_count}
use Rattle.te_model.specs.Pairs.{AscendPairs}
use Rattle.te_model.specs.PathRouting.{IsPathRouting}
use Rattle.shortest_path.specs.Paths.{HasPath}
use Rattle.te_model.proofs.Choices.{list_exists}
use Rattle.routing.specs.Routes.{AreDemands, HasFewPaths}
use Rattle.routing.specs.Utilisation.{parts}
use Rattle.routing.proofs.InOrder.{routes_count}
use Rattle.scheme.specs.Reach.{AllReached, ArePairsOf, IsFirstWithout, IsReached}
use Rattle.scheme.proofs.Reaching.{reached_or_first}
use Rattle.failure.specs.declared.outage.Failures.{Failures}
use Rattle.failure.specs.Series.{marks_of}
use Rattle.failure.specs.Survivor.{survivor_of}
use Rattle.failure.proofs.NetworkLemmas.{well-formed}
use Rattle.plan.specs.declared.recovery.Recovery.{Recovery}
use Rattle.local_recovery.specs.declared.mode.Mode.{Mode}
use Rattle.local_recovery.specs.Rates.{have_rates, pairs_of}
use Rattle.local_recovery.specs.Spread.{IsSublist}
use Rattle.local_recovery.proofs.Existence.{recoveries_exist, spreads_exist}
use Rattle.local_recovery.proofs.Spreading.{spread_rates as spread_whole}
use Rattle.flow_sim.specs.declared.result.StepResult.{StepResult}
use Rattle.flow_sim.specs.Result.{all_carried, pair_results}
use Rattle.series_simulation.specs.declared.step_row.SimulatedStep.{SimulatedStep}
use Rattle.series_simulation.specs.declared.step_row.StepRow.{StepRow}
use Rattle.series_simulation.specs.Connected.{TellsPaths, demands_of}
use Rattle.series_simulation.specs.Laws.{HasAdaptations, HasPlans, HasRoutings, StepRowsExist, StepsExist}
use Rattle.traffic_matrix.specs.declared.series.Series.{Series}
use Rattle.traffic_matrix.specs.declared.traffic.Traffic.{Traffic}
use Rattle.traffic_matrix.specs.Limits.{IsSeries}
use Rattle.traffic_matrix.specs.Traffic.{IsTraffic, predicted_in, sent_in}
use Rattle.series_simulation.specs.OriginalLinks.{original_routes}
use Rattle.series_simulation.specs.Rows.{IsAdaptedOn, IsReroutedOn, IsRouted, IsRoutedByPlan, IsStep, IsStepRow, bound_of_sent, given_demands, is_rerouted, mode_of, no_row, paths_to_adapt}
use Rattle.series_simulation.specs.Simulation.{IsSimulated, peak_of}
use Rattle.series_simulation.specs.StandingPaths.{standing_demands, standing_routes}
use Rattle.series_simulation.proofs.ByPlan.{adapted_set}
use Rattle.series_simulation.proofs.Demands.{demands_are}
use Rattle.series_simulation.proofs.Mapping.{few-back, pairs-back, routing-back}
use Rattle.series_simulation.proofs.Marking.{marks_count}
use Rattle.series_simulation.proofs.SeriesLemmas.{given_are, passing_pairs, passing_reached, predicted_are, sent_are, series_pairs, surviving_pairs}
use Rattle.series_simulation.proofs.StandingPairs.{standing_demands_are, standing_pairs}
use Rattle.series_simulation.proofs.StandingRates.{standing_few, standing_routing}
use Rattle.series_simulation.proofs.Surviving.{survivor_part}

is_first : (net : Network) (pairs : List Pair) → AllReached net pairs ⊎ ((p : ℕ) × IsFirstWithout net pairs p) → Bool
is_first net pairs (inl all) = true
is_first net pairs (inr first) = false

-- whether the pair has a path in the network
pub has_path_in : Network → Pair → Bool
has_path_in net pair = is_first net (pair ∷ []) (reached_or_first net (pair ∷ []))

pub tells : (net : Network) → TellsPaths net (has_path_in net)
unfolding has_path_in is_first
tells net pair of = go (reached_or_first net (pair ∷ []))
  where
    go : (o : AllReached net (pair ∷ []) ⊎ ((p : ℕ) × IsFirstWithout net (pair ∷ []) p)) →
        (is_first net (pair ∷ []) o ≡ true) ↔ (HasPath net pair.src pair.dst)
    go (inl all) = (λ passes. all 0 (omega arith), λ path. refl)
    go (inr first) =
        let here : 0 ≡ first.0 = omega (arith, first.1.inside) in
        (λ passes. absurd (false≢true passes), λ path. absurd (first.1.without (subst (IsReached net (pair ∷ [])) here path)))

pub simulated_exists : (mode : Mode) (net : Network) (failed : List Bool) (pairs : List Pair) (demand : List ℕ) (routes : List PairRoutes) →
    is_well_formed net ≡ true → IsPathRouting net routes → HasFewPaths 4096 routes → IsSublist (pairs_of routes) pairs →
    (rates : List PairRoutes) × (result : StepResult) × (have_rates rates ≡ true) × IsSimulated mode net failed pairs demand routes rates result
simulated_exists mode net failed pairs demand routes formed splits few some =
    let (left, recovered, same, paths, small, whole) = recoveries_exist mode net formed failed routes splits few in
    let (rates, spread, are_rates) = spreads_exist pairs left (subst (λ (ps : List Pair). IsSublist ps pairs) (sym same) some) in
    let per_pair = pair_results net failed rates demand in
    let carried = all_carried net failed rates demand in
    let result : StepResult = record {
      offered = sum_by (λ p. p.offered) per_pair;
      delivered = sum_by (λ p. p.delivered) per_pair;
      lost_full = sum_by (λ p. p.lost_full) per_pair;
      lost_failed = sum_by (λ p. p.lost_failed) per_pair;
      lost_no_path = sum_by (λ p. p.lost_no_path) per_pair;
      carried = carried;
      per_pair = per_pair;
    } in (
      rates,
      result,
      spread_whole left rates whole spread.added,
      record {
        left = left;
        recovered = recovered;
        spread = spread;
        per_pair = refl;
        carried = refl;
        totals = record {
          carried = refl;
          per_pair = refl;
          offered = refl;
          delivered = refl;
          lost_full = refl;
          lost_failed = refl;
          lost_no_path = refl;
        };
      },
    )

module _ {Plan Note : Type 0} (limit : ℕ) (is_plan : Network → List Pair → Plan → Type 0)
    (relates : Network → List Pair → Plan → List ℕ → List PairRoutes → Note → Type 0) (low : Note → Option ℕ)
    (path_set : Plan → Option (List PairRoutes)) (adapts : Network → List PairRoutes → List ℕ → List PairRoutes → Option ℕ → Type 0) where
  routed_exists : HasRoutings limit is_plan relates → (net : Network) (pairs : List Pair) (predicted : Option (List ℕ)) (demand : List ℕ) (has_path : Pair → Bool) (plan : Plan) →
      is_well_formed net ≡ true → ArePairsOf net pairs → AreDemands (length pairs) (given_demands predicted demand) → TellsPaths net has_path →
      is_plan net (filter has_path pairs) plan →
      (routes : List PairRoutes) × (most : ℕ) × (bound : Option ℕ) × IsRouted limit is_plan relates low net pairs predicted demand plan routes most bound
  routed_exists routings net pairs predicted demand has_path plan formed are demands tell planned =
      let (routes, note, routing, few, related) = routings net formed (filter has_path pairs) plan planned (passing_pairs net has_path pairs are)
      (demands_of has_path pairs (given_demands predicted demand)) (demands_are has_path pairs (given_demands predicted demand) demands) in (
        routes,
        parts net routes (demands_of has_path pairs demand),
        bound_of_sent predicted (low note),
        record {
          has_path = has_path;
          tells = tell;
          planned = planned;
          routing = routing;
          few = few;
          note = note;
          related = related;
          most_is = refl;
          bound_is = refl;
        },
      )

  -- rates over the paths that stand of a plan's set
  adapted_exists : HasAdaptations limit is_plan path_set adapts → (net : Network) (failed : List Bool) (pairs : List Pair) (predicted : Option (List ℕ)) (demand : List ℕ)
      (has_path : Pair → Bool) (plan : Plan) (paths : List PairRoutes) → is_well_formed net ≡ true → ArePairsOf net pairs → AscendPairs pairs →
      AreDemands (length pairs) (given_demands predicted demand) → TellsPaths net has_path → is_plan net (filter has_path pairs) plan → path_set plan ≡ Some paths →
      (routes : List PairRoutes) × (most : ℕ) × (bound : Option ℕ)
      × IsAdaptedOn limit is_plan relates low path_set adapts net failed pairs predicted demand plan paths routes most bound × IsSublist (pairs_of routes) pairs
  adapted_exists adaptations net failed pairs predicted demand has_path plan paths formed are up demands tell planned set =
      let (whole, few_paths, rates) = adaptations net formed (filter has_path pairs) plan paths planned set in
      let standing = standing_routes failed paths in
      let given = demands_of has_path pairs (given_demands predicted demand) in
      let some = standing_pairs failed paths pairs has_path up whole.in_order in
      let count = routes_count (filter has_path pairs) paths whole.in_order in
      let are_given = standing_demands_are failed paths given (subst (λ n. AreDemands n given) (sym count) (demands_are has_path pairs (given_demands predicted demand) demands)) in
      let own_pairs = subst (λ (ps : List Pair). ArePairsOf net ps) (sym some.1) (passing_pairs net some.0 pairs are) in
      let (routes, own, routing, few, keeps, adapted) = rates (pairs_of standing) standing (standing_demands failed paths given) own_pairs
      (standing_routing net failed paths whole.splits) (standing_few limit failed paths few_paths)
      (subst (λ n. AreDemands n (standing_demands failed paths given)) (sym (length-map standing (λ (r : PairRoutes). r.pair))) are_given) in (
        routes,
        parts net routes (standing_demands failed paths (demands_of has_path pairs demand)),
        bound_of_sent predicted own,
        record {
          has_path = has_path;
          tells = tell;
          planned = planned;
          routing = routing;
          few = few;
          keeps = keeps;
          bound_of_given = own;
          adapted = adapted;
          most_is = refl;
          bound_is = refl;
        },
        (some.0, routing.in_order ∙ some.1),
      )

  -- a routing of a step, and what its simulation wants of it
  record StepRouting (net : Network) (failed : List Bool) (pairs : List Pair) (predicted : Option (List ℕ)) (demand : List ℕ) (recovery : Recovery) (plan : Plan) (rerouted : Bool) : Type 0 where
    routes : List PairRoutes
    most : ℕ
    bound : Option ℕ
    routed : MatchBool rerouted (IsReroutedOn limit is_plan relates low net failed pairs predicted demand routes most bound)
        (IsRoutedByPlan limit is_plan relates low path_set adapts net failed pairs predicted demand recovery plan routes most bound)
    splits : IsPathRouting net routes
    some : IsSublist (pairs_of routes) pairs
    few : HasFewPaths limit routes

  by_plan_exists : HasRoutings limit is_plan relates → HasAdaptations limit is_plan path_set adapts → (net : Network) (failed : List Bool) (pairs : List Pair)
      (predicted : Option (List ℕ)) (demand : List ℕ) (recovery : Recovery) (plan : Plan) → is_well_formed net ≡ true → ArePairsOf net pairs → AscendPairs pairs →
      AreDemands (length pairs) (given_demands predicted demand) → is_plan net (filter (has_path_in net) pairs) plan → StepRouting net failed pairs predicted demand recovery plan false
  by_plan_exists routings adaptations net failed pairs predicted demand recovery plan formed are up demands planned =
      go (paths_to_adapt recovery failed (path_set plan)) refl
    where
      go : (o : Option (List PairRoutes)) → paths_to_adapt recovery failed (path_set plan) ≡ o → StepRouting net failed pairs predicted demand recovery plan false
      go None is =
          let (routes, most, bound, routed) = routed_exists routings net pairs predicted demand (has_path_in net) plan formed are demands (tells net) planned in
          record {
            routes = routes;
            most = most;
            bound = bound;
            routed = subst (λ (o : Option (List PairRoutes)). MatchOption o (IsRouted limit is_plan relates low net pairs predicted demand plan routes most bound)
                (λ paths. IsAdaptedOn limit is_plan relates low path_set adapts net failed pairs predicted demand plan paths routes most bound)) (sym is) routed;
            splits = routed.routing.splits;
            some = (routed.has_path, routed.routing.in_order);
            few = routed.few;
          }
      go (Some paths) is =
          let (routes, most, bound, adapted, some) = adapted_exists adaptations net failed pairs predicted demand (has_path_in net) plan paths formed are up demands
          (tells net) planned (adapted_set recovery failed (path_set plan) paths is) in
          record {
            routes = routes;
            most = most;
            bound = bound;
            routed = subst (λ (o : Option (List PairRoutes)). MatchOption o (IsRouted limit is_plan relates low net pairs predicted demand plan routes most bound)
                (λ paths. IsAdaptedOn limit is_plan relates low path_set adapts net failed pairs predicted demand plan paths routes most bound)) (sym is) adapted;
            splits = adapted.routing.splits;
            some = some;
            few = adapted.few;
          }

  step_routing_exists : HasPlans is_plan → HasRoutings limit is_plan relates → HasAdaptations limit is_plan path_set adapts → (net : Network) (failed : List Bool)
      (pairs : List Pair) (predicted : Option (List ℕ)) (demand : List ℕ) (recovery : Recovery) (plan : Plan) → is_well_formed net ≡ true →
      length failed ≡ link_count net → ArePairsOf net pairs → AscendPairs pairs → AreDemands (length pairs) (given_demands predicted demand) →
      is_plan net (filter (has_path_in net) pairs) plan → (rerouted : Bool) → StepRouting net failed pairs predicted demand recovery plan rerouted
  step_routing_exists plans routings adaptations net failed pairs predicted demand recovery plan formed marks are up demands planned true =
      let left = survivor_of net failed in
      let formed_left = well-formed net failed marks formed in
      let are_left = surviving_pairs net failed pairs are in
      let test = has_path_in left.network in
      let (plan_left, planned_left) = plans left.network formed_left (filter test pairs) (passing_pairs left.network test pairs are_left)
      (passing_reached left.network test pairs are_left (tells left.network)) in
      let (own, most, bound, routed) = routed_exists routings left.network pairs predicted demand test plan_left formed_left are_left demands (tells left.network) planned_left in
      record {
        routes = original_routes left.origin own;
        most = most;
        bound = bound;
        routed = record { plan = plan_left; own = own; routed = routed; mapped = refl };
        splits = routing-back left.network net left.origin own (survivor_part net failed marks) routed.routing.splits;
        some = (routed.has_path, pairs-back left.origin own ∙ routed.routing.in_order);
        few = few-back left.origin limit own routed.few;
      }
  step_routing_exists plans routings adaptations net failed pairs predicted demand recovery plan formed marks are up demands planned false =
      by_plan_exists routings adaptations net failed pairs predicted demand recovery plan formed are up demands planned

  step_exists : HasPlans is_plan → HasRoutings limit is_plan relates → HasAdaptations limit is_plan path_set adapts → limit ≤ 4096 → (net : Network) (failed : List Bool) (pairs : List Pair)
      (predicted : Option (List ℕ)) (demand : List ℕ) (recovery : Recovery) (plan : Plan) → is_well_formed net ≡ true →
      length failed ≡ link_count net → ArePairsOf net pairs → AscendPairs pairs →
      AreDemands (length pairs) (given_demands predicted demand) → is_plan net (filter (has_path_in net) pairs) plan → (step : ℕ) →
      (s : SimulatedStep) × ((s.row.step ≡ step) × IsStep limit is_plan relates low path_set adapts net failed pairs predicted demand recovery plan s.rates.routes s.row)
  step_exists plans routings adaptations small net failed pairs predicted demand recovery plan formed marks are up demands planned step =
      let routed = step_routing_exists plans routings adaptations net failed pairs predicted demand recovery plan formed marks are up demands planned (is_rerouted recovery failed) in
      let few = All-weaker (λ (r : PairRoutes). length r.paths ≤ limit) (λ (r : PairRoutes). length r.paths ≤ 4096) (λ r is. omega (arith, is, small)) routed.routes routed.few in
      let (rates, result, whole, simulated) = simulated_exists (mode_of recovery) net failed pairs demand routed.routes formed routed.splits few routed.some in (
        record {
          rates = record { routes = rates; rates = whole };
          row = record { step = step; result = result; peak = peak_of net result.carried; parts = routed.most; low = routed.bound };
        },
        (refl, record { routes = routed.routes; routed = routed.routed; simulated = simulated; peak_is = refl }),
      )

  -- a plan of the pairs that have a path
  pub plan_exists : HasPlans is_plan → (net : Network) (series : Series) → is_well_formed net ≡ true → IsSeries (node_count net) series →
      (plan : Plan) × is_plan net (filter (has_path_in net) series.pairs.list) plan
  plan_exists plans net series formed is =
      let are = series_pairs net series formed is in
      let test = has_path_in net in
      let pairs = series.pairs.list in
      plans net formed (filter test pairs) (passing_pairs net test pairs are) (passing_reached net test pairs are (tells net))

  -- step k by a plan of these pairs
  pub step_by : HasPlans is_plan → HasRoutings limit is_plan relates → HasAdaptations limit is_plan path_set adapts → limit ≤ 4096 → (net : Network) → is_well_formed net ≡ true → (traffic : Traffic) →
      IsTraffic (node_count net) traffic → (failures : Failures) (recovery : Recovery) (plan : Plan) →
      is_plan net (filter (has_path_in net) traffic.sent.pairs.list) plan → (k : ℕ) → k < length traffic.sent.steps →
      (s : SimulatedStep)
      × ((s.row.step ≡ k) × IsStep limit is_plan relates low path_set adapts net (marks_of net failures k) traffic.sent.pairs.list (predicted_in traffic k) (sent_in traffic k)
      recovery plan s.rates.routes s.row)
  step_by plans routings adaptations small net formed traffic is failures recovery plan planned k below =
      let given = given_are (length traffic.sent.pairs.list) (predicted_in traffic k) (sent_in traffic k)
      (predicted_are (node_count net) traffic k is below) (sent_are (node_count net) traffic k is below) in
      step_exists plans routings adaptations small net (marks_of net failures k) traffic.sent.pairs.list (predicted_in traffic k) (sent_in traffic k) recovery plan formed
      (marks_count net failures k) (series_pairs net traffic.sent formed is.sent) is.sent.ascending given planned k

  pub steps_exist : StepsExist limit is_plan relates low path_set adapts
  steps_exist plans routings adaptations small net formed traffic is failures recovery k below =
      let (plan, planned) = plan_exists plans net traffic.sent formed is.sent in
      let (step, (number, is_step)) = step_by plans routings adaptations small net formed traffic is failures recovery plan planned k below in
      (step, record { plan = plan; number = number; is_step = is_step })

  pub step_rows_exist : StepRowsExist limit is_plan relates low path_set adapts
  step_rows_exist plans routings adaptations small net formed traffic is failures recovery =
      let pairs = traffic.sent.pairs.list in
      let (plan, planned) = plan_exists plans net traffic.sent formed is.sent in
      let (rows, count, each) = list_exists
      (λ k (row : StepRow).
      (row.step ≡ k) × IsStepRow limit is_plan relates low path_set adapts net (marks_of net failures k) pairs (predicted_in traffic k) (sent_in traffic k) recovery plan row)
      no_row (length traffic.sent.steps) (λ k below.
      let (step, (number, is_step)) = step_by plans routings adaptations small net formed traffic is failures recovery plan planned k below in
      (step.row, (number, (step.rates.routes, is_step)))) in (
        rows,
        record {
          plan = plan;
          count = count;
          steps = λ k below. (each k (omega (arith, below, count))).0;
          each = λ k below. (each k (omega (arith, below, count))).1;
        },
      )
