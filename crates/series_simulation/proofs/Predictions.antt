-- A scheme that keeps one routing for every matrix, states no bound and chooses no rates anew, has just the rows that it has without predictions.
use Rattle.std.proofs.Common.{◌≡◌, ℕ, Bool, true, false, Option, None, Some, List, filter, ap, ◌∙◌, refl, sym}
use Rattle.std.specs.Prelude.{MatchBool, MatchOption}
use Rattle.std.proofs.lemmas.Option.{none-some}
use Rattle.te_model.specs.declared.network.Network.{Network}
use Rattle.te_model.specs.declared.route.Pair.{Pair}
use Rattle.te_model.specs.declared.route.PairRoutes.{PairRoutes}
use Rattle.failure.specs.Series.{marks_of}
use Rattle.failure.specs.Survivor.{survivor_of}
use Rattle.plan.specs.declared.recovery.Recovery.{Recovery}
use Rattle.traffic_matrix.specs.Traffic.{predicted_in, sent_in}
use Rattle.series_simulation.specs.declared.step_row.StepRow.{StepRow}
use Rattle.series_simulation.specs.Connected.{demands_of}
use Rattle.series_simulation.specs.Laws.{PredictionsChangeNothing}
use Rattle.series_simulation.specs.Rows.{IsAdaptedOn, IsReroutedOn, IsRouted, IsRoutedByPlan, IsStepRow, bound_of_sent, given_demands, is_rerouted, paths_to_adapt, step_row_at}
use Rattle.series_simulation.proofs.ByPlan.{none_adapted}

module _ {Plan Note : Type 0} (limit : ℕ) (is_plan : Network → List Pair → Plan → Type 0)
    (relates : Network → List Pair → Plan → List ℕ → List PairRoutes → Note → Type 0) (low : Note → Option ℕ)
    (path_set : Plan → Option (List PairRoutes)) (adapts : Network → List PairRoutes → List ℕ → List PairRoutes → Option ℕ → Type 0)
    (keeps : (net : Network) (pairs : List Pair) (plan : Plan) (one other : List ℕ) (routes : List PairRoutes) (note : Note) →
    relates net pairs plan one routes note → relates net pairs plan other routes note) (no_bound : (note : Note) → low note ≡ None)
    (no_set : (plan : Plan) → path_set plan ≡ None) where
  no_bound_of : (predicted : Option (List ℕ)) (note : Note) → bound_of_sent predicted (low note) ≡ None
  no_bound_of None note = no_bound note
  no_bound_of (Some demand) note = refl

  routed_alike : (net : Network) (pairs : List Pair) (predicted other : Option (List ℕ)) (demand : List ℕ) (plan : Plan) (routes : List PairRoutes) (most : ℕ)
      (bound : Option ℕ) → IsRouted limit is_plan relates low net pairs predicted demand plan routes most bound →
      IsRouted limit is_plan relates low net pairs other demand plan routes most bound
  routed_alike net pairs predicted other demand plan routes most bound is =
      let test = is.has_path in
      let given = λ (o : Option (List ℕ)). demands_of test pairs (given_demands o demand) in
      record {
        has_path = test;
        tells = is.tells;
        planned = is.planned;
        routing = is.routing;
        few = is.few;
        note = is.note;
        related = keeps net (filter test pairs) plan (given predicted) (given other) routes is.note is.related;
        most_is = is.most_is;
        bound_is = is.bound_is ∙ no_bound_of predicted is.note ∙ sym (no_bound_of other is.note);
      }

  -- where no rates are chosen anew
  by_plan_alike : (net : Network) (failed : List Bool) (pairs : List Pair) (predicted other : Option (List ℕ)) (demand : List ℕ) (recovery : Recovery) (plan : Plan)
      (routes : List PairRoutes) (most : ℕ) (bound : Option ℕ) (o : Option (List PairRoutes)) → o ≡ None →
      MatchOption o (IsRouted limit is_plan relates low net pairs predicted demand plan routes most bound)
      (λ paths. IsAdaptedOn limit is_plan relates low path_set adapts net failed pairs predicted demand plan paths routes most bound) →
      MatchOption o (IsRouted limit is_plan relates low net pairs other demand plan routes most bound)
      (λ paths. IsAdaptedOn limit is_plan relates low path_set adapts net failed pairs other demand plan paths routes most bound)
  by_plan_alike net failed pairs predicted other demand recovery plan routes most bound None none is = routed_alike net pairs predicted other demand plan routes most bound is
  by_plan_alike net failed pairs predicted other demand recovery plan routes most bound (Some paths) none is = absurd (none-some paths (sym none))

  none_to_adapt : (recovery : Recovery) (failed : List Bool) (plan : Plan) → paths_to_adapt recovery failed (path_set plan) ≡ None
  none_to_adapt recovery failed plan = ap (paths_to_adapt recovery failed) (no_set plan) ∙ none_adapted recovery failed

  routing_alike : (net : Network) (failed : List Bool) (pairs : List Pair) (predicted other : Option (List ℕ)) (demand : List ℕ) (recovery : Recovery) (plan : Plan)
      (routes : List PairRoutes) (most : ℕ) (bound : Option ℕ) (rerouted : Bool) →
      MatchBool rerouted (IsReroutedOn limit is_plan relates low net failed pairs predicted demand routes most bound)
      (IsRoutedByPlan limit is_plan relates low path_set adapts net failed pairs predicted demand recovery plan routes most bound) →
      MatchBool rerouted (IsReroutedOn limit is_plan relates low net failed pairs other demand routes most bound)
      (IsRoutedByPlan limit is_plan relates low path_set adapts net failed pairs other demand recovery plan routes most bound)
  routing_alike net failed pairs predicted other demand recovery plan routes most bound false is =
      by_plan_alike net failed pairs predicted other demand recovery plan routes most bound (paths_to_adapt recovery failed (path_set plan)) (none_to_adapt recovery failed plan) is
  routing_alike net failed pairs predicted other demand recovery plan routes most bound true is = record {
    plan = is.plan;
    own = is.own;
    routed = routed_alike (survivor_of net failed).network pairs predicted other demand is.plan is.own most bound is.routed;
    mapped = is.mapped;
  }

  row_alike : (net : Network) (failed : List Bool) (pairs : List Pair) (predicted other : Option (List ℕ)) (demand : List ℕ) (recovery : Recovery) (plan : Plan)
      (row : StepRow) → IsStepRow limit is_plan relates low path_set adapts net failed pairs predicted demand recovery plan row →
      IsStepRow limit is_plan relates low path_set adapts net failed pairs other demand recovery plan row
  row_alike net failed pairs predicted other demand recovery plan row (rates, is) = (
    rates,
    record {
      routes = is.routes;
      routed = routing_alike net failed pairs predicted other demand recovery plan is.routes row.parts row.low (is_rerouted recovery failed) is.routed;
      simulated = is.simulated;
      peak_is = is.peak_is;
    },
  )

pub predictions_change_nothing : {Plan Note : Type 0} (limit : ℕ) (is_plan : Network → List Pair → Plan → Type 0)
    (relates : Network → List Pair → Plan → List ℕ → List PairRoutes → Note → Type 0) (low : Note → Option ℕ)
    (path_set : Plan → Option (List PairRoutes)) (adapts : Network → List PairRoutes → List ℕ → List PairRoutes → Option ℕ → Type 0) →
    PredictionsChangeNothing limit is_plan relates low path_set adapts
predictions_change_nothing limit is_plan relates low path_set adapts keeps no_bound no_set net traffic failures recovery rows =
    let alike = λ (predicted other : Option (List ℕ)) (k : ℕ) (plan : _).
    row_alike limit is_plan relates low path_set adapts keeps no_bound no_set net (marks_of net failures k) traffic.sent.pairs.list predicted other (sent_in traffic k) recovery plan
    (step_row_at rows k)
    in (
      λ are. record {
        plan = are.plan;
        count = are.count;
        steps = are.steps;
        each = λ k below. alike (predicted_in traffic k) None k are.plan (are.each k below);
      },
      λ are. record {
        plan = are.plan;
        count = are.count;
        steps = are.steps;
        each = λ k below. alike None (predicted_in traffic k) k are.plan (are.each k below);
      },
    )
