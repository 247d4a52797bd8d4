-- A row of a step is a row of each step that is given the same.
use Rattle.std.proofs.Common.{◌≡◌, ℕ, ◌<◌, ◌∙◌, Bool, List, [], length, get_or, Option, Some, ap, arith, refl, subst, sym}
use Rattle.std.specs.Bool.{beq}
use Rattle.std.specs.Cmp.{booleans_Decides}
use Rattle.std.specs.Cmp.Lexicographic.{pointwise}
use Rattle.std.specs.Prelude.{Decides, MatchOption}
use Rattle.std.proofs.lemmas.Bool.Decides.{Decides-like}
use Rattle.std.proofs.lemmas.List.{get_or_default}
use Rattle.std.proofs.lemmas.Option.{same_Some}
use Rattle.std.proofs.lemmas.Slice.Eq.{slice_eq-Decides}
use Rattle.te_model.specs.declared.network.Network.{Network}
use Rattle.te_model.specs.declared.route.Pair.{Pair}
use Rattle.te_model.specs.declared.route.PairRoutes.{PairRoutes}
use Rattle.failure.specs.declared.outage.Failures.{Failures}
use Rattle.failure.specs.Series.{marks_of_steps}
use Rattle.traffic_matrix.specs.declared.series.Series.{Series}
use Rattle.traffic_matrix.specs.declared.traffic.Traffic.{Traffic}
use Rattle.traffic_matrix.specs.Traffic.{ArePredictionsFor, IsTraffic, demands_in, predicted_in, sent_in}
use Rattle.plan.specs.declared.recovery.Recovery.{Recovery}
use Rattle.series_simulation.specs.declared.step_row.StepRow.{StepRow}
use Rattle.series_simulation.specs.Repeated.{AreAlike, IsRowIn}
use Rattle.series_simulation.specs.Rows.{IsStepRow}
use Rattle.series_simulation.specs.Simulation.{IsConservedStep}
use Rattle.series_simulation.proofs.Marking.{marks_at, series_count}
use Rattle.series_simulation.proofs.Rowing.{IsRowOf}

-- predictions fit what is sent
pub predictions_fit : (n : ℕ) (traffic : Traffic) (predictions : Series) → traffic.predicted ≡ Some predictions → IsTraffic n traffic →
    ArePredictionsFor n traffic.sent predictions
predictions_fit n traffic predictions is fits = subst (λ (o : Option Series). MatchOption o (Unit {0}) (ArePredictionsFor n traffic.sent)) is fits.predicted

-- a test of the marks that were read is one of the marks of the steps
pub marks_alike : (marks : List (List Bool)) (one other : ℕ) (first second : List Bool) (same : Bool) → one < length marks → other < length marks →
    first ≡ get_or marks one first → second ≡ get_or marks other second → same ≡ pointwise beq first second →
    Decides same (get_or marks one [] ≡ get_or marks other [])
marks_alike marks one other first second same inside within at_one at_other is =
    let left = get_or_default marks one first [] inside in
    let right = get_or_default marks other second [] within in
    let before : first ≡ get_or marks one [] = at_one ∙ left in
    let after : second ≡ get_or marks other [] = at_other ∙ right in
    Decides-like same (λ e. sym before ∙ e ∙ after) (λ e. before ∙ e ∙ sym after) (slice_eq-Decides booleans_Decides first second same is)

-- a test of the demands is one of the predictions
pub predictions_alike : (series : Series) (one other : ℕ) (same : Bool) → Decides same (demands_in series one ≡ demands_in series other) →
    Decides same (Some (demands_in series one) ≡ Some (demands_in series other))
predictions_alike series one other same decides =
    Decides-like same (ap Some) (same_Some (demands_in series one) (demands_in series other)) decides

-- the row with another number
abbrev pub with_number : ℕ → StepRow → StepRow
with_number step row = record { step = step; result = row.result; peak = row.peak; parts = row.parts; low = row.low }

module _ {Plan Note : Type 0} (limit : ℕ) (is_plan : Network → List Pair → Plan → Type 0)
    (relates : Network → List Pair → Plan → List ℕ → List PairRoutes → Note → Type 0) (low : Note → Option ℕ)
    (path_set : Plan → Option (List PairRoutes)) (adapts : Network → List PairRoutes → List ℕ → List PairRoutes → Option ℕ → Type 0) where
  -- a row says nothing of its number
  row_numbered : (net : Network) (failed : List Bool) (pairs : List Pair) (predicted : Option (List ℕ)) (demand : List ℕ) (recovery : Recovery)
      (plan : Plan) (row : StepRow) (step : ℕ) → IsStepRow limit is_plan relates low path_set adapts net failed pairs predicted demand recovery plan row →
      IsStepRow limit is_plan relates low path_set adapts net failed pairs predicted demand recovery plan (with_number step row)
  row_numbered net failed pairs predicted demand recovery plan row step is =
      (is.0, record { routes = is.1.routes; routed = is.1.routed; simulated = is.1.simulated; peak_is = is.1.peak_is })

  pub row_again : (net : Network) (marks : List (List Bool)) (traffic : Traffic) (recovery : Recovery) (plan : Plan) (row : StepRow) (step : ℕ) →
      IsRowIn limit is_plan relates low path_set adapts net marks traffic recovery plan row → step < length traffic.sent.steps →
      AreAlike marks traffic row.step step → IsRowIn limit is_plan relates low path_set adapts net marks traffic recovery plan (with_number step row)
  row_again net marks traffic recovery plan row step is below alike = record {
    below = below;
    is_row = row_numbered net (get_or marks step []) traffic.sent.pairs.list (predicted_in traffic step) (sent_in traffic step) recovery plan row step
        (subst (λ (failed : List Bool). IsStepRow limit is_plan relates low path_set adapts net failed traffic.sent.pairs.list (predicted_in traffic step)
        (sent_in traffic step) recovery plan row) alike.0
        (subst (λ (demand : List ℕ). IsStepRow limit is_plan relates low path_set adapts net (get_or marks row.step []) traffic.sent.pairs.list
        (predicted_in traffic step) demand recovery plan row) alike.1
        (subst (λ (predicted : Option (List ℕ)). IsStepRow limit is_plan relates low path_set adapts net (get_or marks row.step []) traffic.sent.pairs.list
        predicted (sent_in traffic row.step) recovery plan row) alike.2 is.is_row)));
    conserved = subst (λ (demand : List ℕ). IsConservedStep demand row.result) alike.1 is.conserved;
  }

  -- a row of a step by its marks is one by the marks of each step
  pub row_in : (net : Network) (marks : List (List Bool)) (traffic : Traffic) (recovery : Recovery) (plan : Plan) (row : StepRow) (step : ℕ)
      (failed : List Bool) → row.step ≡ step → step < length traffic.sent.steps → failed ≡ get_or marks step [] →
      IsStepRow limit is_plan relates low path_set adapts net failed traffic.sent.pairs.list (predicted_in traffic step) (sent_in traffic step) recovery plan row →
      IsConservedStep (sent_in traffic step) row.result → IsRowIn limit is_plan relates low path_set adapts net marks traffic recovery plan row
  row_in net marks traffic recovery plan row step failed number below read is conserved = record {
    below = subst (λ (k : ℕ). k < length traffic.sent.steps) (sym number) below;
    is_row = subst (λ (k : ℕ). IsStepRow limit is_plan relates low path_set adapts net (get_or marks k []) traffic.sent.pairs.list
        (predicted_in traffic k) (sent_in traffic k) recovery plan row) (sym number)
        (subst (λ (m : List Bool). IsStepRow limit is_plan relates low path_set adapts net m traffic.sent.pairs.list
        (predicted_in traffic step) (sent_in traffic step) recovery plan row) read is);
    conserved = subst (λ (k : ℕ). IsConservedStep (sent_in traffic k) row.result) (sym number) conserved;
  }

  -- a row by the marks of each step is the row of its step
  pub row_at : (net : Network) (traffic : Traffic) (failures : Failures) (recovery : Recovery) (plan : Plan) (marks : List (List Bool)) (row : StepRow)
      (step : ℕ) → row.step ≡ step → marks ≡ marks_of_steps net failures (length traffic.sent.steps) →
      IsRowIn limit is_plan relates low path_set adapts net marks traffic recovery plan row →
      IsRowOf limit is_plan relates low path_set adapts net traffic failures recovery plan step row
  row_at net traffic failures recovery plan marks row step number all is =
      let k = row.step in
      let failed = get_or marks k [] in
      let inside : k < length marks = omega (arith, is.below, series_count net failures (length traffic.sent.steps) marks all) in
      let read = marks_at net failures (length traffic.sent.steps) k marks failed all is.below (get_or_default marks k [] failed inside) in
      subst (λ (n : ℕ). IsRowOf limit is_plan relates low path_set adapts net traffic failures recovery plan n row) number
      (record {
        step = refl;
        row = subst (λ (m : List Bool). IsStepRow limit is_plan relates low path_set adapts net m traffic.sent.pairs.list (predicted_in traffic k) (sent_in traffic k)
            recovery plan row) read is.is_row;
        conserved = is.conserved;
      })
