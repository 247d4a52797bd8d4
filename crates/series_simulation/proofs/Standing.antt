-- The row of each step of a series stands in rows of the series.
use Rattle.std.proofs.Common.{inl, inr, ◌≡◌, ℕ, Bool, true, false, Option, List, [], ◌∷◌, All, length, filter, arith, refl, ap, sym, subst, ◌∙◌}
use Rattle.std.specs.Prelude.{MatchBool, if◌then◌else◌}
use Rattle.std.proofs.lemmas.Bool.{cases_eq, false≢true}
use Rattle.std.proofs.lemmas.List.Elements.{All-head, All-tail}
use Rattle.te_model.specs.declared.network.Network.{Network}
use Rattle.te_model.specs.declared.route.Pair.{Pair}
use Rattle.te_model.specs.declared.route.PairRoutes.{PairRoutes}
use Rattle.te_model.proofs.Choices.{list_exists}
use Rattle.scheme.specs.Reach.{ArePairsOf, IsPairOf}
use Rattle.failure.specs.Series.{marks_of}
use Rattle.plan.specs.declared.recovery.Recovery.{Recovery}
use Rattle.traffic_matrix.specs.Traffic.{predicted_in, sent_in}
use Rattle.series_simulation.specs.declared.step_row.StepRow.{StepRow}
use Rattle.series_simulation.specs.Connected.{TellsPaths}
use Rattle.series_simulation.specs.Laws.{StepsStandInRows}
use Rattle.series_simulation.specs.Rows.{IsReroutedOn, IsRoutedByPlan, IsStep, IsStepRow, is_rerouted, no_row, paths_to_adapt}
use Rattle.series_simulation.proofs.ByPlan.{planned_by}
use Rattle.series_simulation.proofs.Existence.{has_path_in, plan_exists, step_by, tells}
use Rattle.series_simulation.proofs.SeriesLemmas.{series_pairs}

-- two tests that tell the paths of a network are one on its pairs
one_test : (net : Network) (one other : Pair → Bool) (pair : Pair) → IsPairOf net pair → TellsPaths net one → TellsPaths net other → one pair ≡ other pair
one_test net one other pair of says told = go (one pair) (other pair) refl refl
  where
    go : (a b : Bool) → one pair ≡ a → other pair ≡ b → a ≡ b
    go true true p q = refl
    go false false p q = refl
    go true false p q = absurd (false≢true (sym q ∙ (told pair of).1 ((says pair of).0 p)))
    go false true p q = absurd (false≢true (sym p ∙ (says pair of).1 ((told pair of).0 q)))

-- so they pass the same pairs
same_passing : (net : Network) (one other : Pair → Bool) (pairs : List Pair) → All (IsPairOf net) pairs → TellsPaths net one → TellsPaths net other →
    filter one pairs ≡ filter other pairs
same_passing net one other [] are says told = refl
same_passing net one other (p ∷ ps) are says told =
    let rest = same_passing net one other ps (All-tail (IsPairOf net) p ps are) says told in
    ap (λ b. if b then p ∷ filter one ps else filter one ps) (one_test net one other p (All-head (IsPairOf net) p ps are) says told)
    ∙ ap (λ qs. if other p then p ∷ qs else qs) rest

module _ {Plan Note : Type 0} (limit : ℕ) (is_plan : Network → List Pair → Plan → Type 0)
    (relates : Network → List Pair → Plan → List ℕ → List PairRoutes → Note → Type 0) (low : Note → Option ℕ)
    (path_set : Plan → Option (List PairRoutes)) (adapts : Network → List PairRoutes → List ℕ → List PairRoutes → Option ℕ → Type 0) where
  -- a plan of the pairs that have a path, by which the routing of a step is what it is: the one of the step, or any where the step was
  -- rerouted
  record StandsBy (net : Network) (failed : List Bool) (pairs : List Pair) (predicted : Option (List ℕ)) (demand : List ℕ)
      (routes : List PairRoutes) (most : ℕ) (bound : Option ℕ) (recovery : Recovery) (rerouted : Bool) : Type 0 where
    plan : Plan
    planned : is_plan net (filter (has_path_in net) pairs) plan
    routed : MatchBool rerouted (IsReroutedOn limit is_plan relates low net failed pairs predicted demand routes most bound)
        (IsRoutedByPlan limit is_plan relates low path_set adapts net failed pairs predicted demand recovery plan routes most bound)

  stands_by : (net : Network) (failed : List Bool) (pairs : List Pair) (predicted : Option (List ℕ)) (demand : List ℕ) (some own : Plan) (routes : List PairRoutes) (most : ℕ)
      (bound : Option ℕ) (recovery : Recovery) → ArePairsOf net pairs → is_plan net (filter (has_path_in net) pairs) some → (rerouted : Bool) →
      MatchBool rerouted (IsReroutedOn limit is_plan relates low net failed pairs predicted demand routes most bound)
      (IsRoutedByPlan limit is_plan relates low path_set adapts net failed pairs predicted demand recovery own routes most bound) →
      StandsBy net failed pairs predicted demand routes most bound recovery rerouted
  stands_by net failed pairs predicted demand some own routes most bound recovery are planned true is = record { plan = some; planned = planned; routed = is }
  stands_by net failed pairs predicted demand some own routes most bound recovery are planned false is =
      let (has_path, told, by) = planned_by limit is_plan relates low path_set adapts net failed pairs predicted demand own routes most bound
      (paths_to_adapt recovery failed (path_set own)) is in
      record {
        plan = own;
        planned = subst (λ (qs : List Pair). is_plan net qs own) (same_passing net has_path (has_path_in net) pairs are.each told (tells net)) by;
        routed = is;
      }

  pub steps_stand_in_rows : StepsStandInRows limit is_plan relates low path_set adapts
  steps_stand_in_rows plans routings adaptations small net formed traffic is failures recovery k below step at =
      let pairs = traffic.sent.pairs.list in
      let s = at.is_step in
      let failed = marks_of net failures k in
      let (some, planned) = plan_exists limit is_plan relates low path_set adapts plans net traffic.sent formed is.sent in
      let by = stands_by net failed pairs (predicted_in traffic k) (sent_in traffic k) some at.plan s.routes step.row.parts step.row.low recovery (series_pairs net traffic.sent formed is.sent) planned
      (is_rerouted recovery failed) s.routed in
      let own : IsStep limit is_plan relates low path_set adapts net failed pairs (predicted_in traffic k) (sent_in traffic k) recovery by.plan step.rates.routes step.row =
      record { routes = s.routes; routed = by.routed; simulated = s.simulated; peak_is = s.peak_is }
      in
      let Row = λ (j : ℕ) (row : StepRow).
      (row.step ≡ j) × IsStepRow limit is_plan relates low path_set adapts net (marks_of net failures j) pairs (predicted_in traffic j) (sent_in traffic j) recovery by.plan row × (j ≡ k → row ≡ step.row)
      in
      let (rows, count, each) = list_exists Row no_row (length traffic.sent.steps) (λ j inside. elim (cases_eq j k) [
        | inl same ↦ subst (λ (i : ℕ). (row : StepRow) × Row i row) (sym same) (step.row, (at.number, (step.rates.routes, own), λ again. refl))
        | inr apart ↦
            let (other, (number, is_step)) = step_by limit is_plan relates low path_set adapts plans routings adaptations small net formed traffic is failures recovery by.plan by.planned j inside in
            (other.row, (number, (other.rates.routes, is_step), λ same. absurd (apart same)))
      ]) in (
        rows,
        record {
          plan = by.plan;
          count = count;
          steps = λ j inside. (each j (omega (arith, inside, count))).0;
          each = λ j inside. (each j (omega (arith, inside, count))).1;
        },
        (each k below).2 refl,
      )
