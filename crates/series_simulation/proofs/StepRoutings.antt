-- The routing of a step, from what was read of the traffic for it.
use Rattle.std.proofs.Common.{◌≡◌, ℕ, Bool, true, false, List, Option, sym, subst}
use Rattle.std.specs.Prelude.{MatchBool}
use Rattle.te_model.specs.declared.network.Network.{Network}
use Rattle.te_model.specs.declared.route.Pair.{Pair}
use Rattle.te_model.specs.declared.route.PairRoutes.{PairRoutes}
use Rattle.plan.specs.declared.recovery.Recovery.{Recovery}
use Rattle.series_simulation.specs.Rows.{IsReroutedOn, IsRoutedByPlan, IsStepRouting, is_rerouted}

module _ {Plan Note : Type 0} (limit : ℕ) (is_plan : Network → List Pair → Plan → Type 0)
    (relates : Network → List Pair → Plan → List ℕ → List PairRoutes → Note → Type 0) (low : Note → Option ℕ)
    (path_set : Plan → Option (List PairRoutes)) (adapts : Network → List PairRoutes → List ℕ → List PairRoutes → Option ℕ → Type 0)
    (net : Network) (pairs : List Pair) (recovery : Recovery) (plan : Plan) (failed : List Bool) (read predicted : Option (List ℕ)) (taken demand : List ℕ)
    (routes : List PairRoutes) (most : ℕ) (bound : Option ℕ) (predictions : read ≡ predicted) (sent : taken ≡ demand) where
  -- of a step that is routed anew
  pub anew_in_step : (marks : List Bool) → is_rerouted recovery failed ≡ true → marks ≡ failed →
      IsReroutedOn limit is_plan relates low net marks pairs read taken routes most bound →
      IsStepRouting limit is_plan relates low path_set adapts net failed pairs predicted demand recovery plan routes most bound
  anew_in_step marks is same anew =
      subst (λ (b : Bool). MatchBool b (IsReroutedOn limit is_plan relates low net failed pairs predicted demand routes most bound)
      (IsRoutedByPlan limit is_plan relates low path_set adapts net failed pairs predicted demand recovery plan routes most bound)) (sym is)
      (subst (λ (f : List Bool). IsReroutedOn limit is_plan relates low net f pairs predicted demand routes most bound) same
      (subst (λ (p : Option (List ℕ)). IsReroutedOn limit is_plan relates low net marks pairs p demand routes most bound) predictions
      (subst (λ (d : List ℕ). IsReroutedOn limit is_plan relates low net marks pairs read d routes most bound) sent anew)))

  -- and of another
  pub planned_in_step : is_rerouted recovery failed ≡ false →
      IsRoutedByPlan limit is_plan relates low path_set adapts net failed pairs read taken recovery plan routes most bound →
      IsStepRouting limit is_plan relates low path_set adapts net failed pairs predicted demand recovery plan routes most bound
  planned_in_step is planned =
      subst (λ (b : Bool). MatchBool b (IsReroutedOn limit is_plan relates low net failed pairs predicted demand routes most bound)
      (IsRoutedByPlan limit is_plan relates low path_set adapts net failed pairs predicted demand recovery plan routes most bound)) (sym is)
      (subst (λ (p : Option (List ℕ)). IsRoutedByPlan limit is_plan relates low path_set adapts net failed pairs p demand recovery plan routes most bound) predictions
      (subst (λ (d : List ℕ). IsRoutedByPlan limit is_plan relates low path_set adapts net failed pairs read d recovery plan routes most bound) sent planned))
