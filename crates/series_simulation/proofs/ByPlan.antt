-- What is known of a routing by a plan, whether its rates are the scheme's for the whole network or chosen anew.
use Rattle.std.proofs.Common.{◌≡◌, ℕ, Bool, true, false, Option, None, Some, List, filter, refl, if◌then◌else◌}
use Rattle.std.specs.Prelude.{MatchOption}
use Rattle.std.specs.List.{list_any}
use Rattle.std.proofs.lemmas.Option.{none-some}
use Rattle.te_model.specs.declared.network.Network.{Network}
use Rattle.te_model.specs.declared.route.Pair.{Pair}
use Rattle.te_model.specs.declared.route.PairRoutes.{PairRoutes}
use Rattle.plan.specs.declared.recovery.Recovery.{Recovery}
use Rattle.plan.specs.declared.recovery.Recovery.TheVariants.{Keep, Scale, Bypass, Reroute, Adapt}
use Rattle.series_simulation.specs.Connected.{TellsPaths}
use Rattle.series_simulation.specs.Rows.{IsAdaptedOn, IsRouted, paths_to_adapt}

set_if_some : (b : Bool) (o : Option (List PairRoutes)) (paths : List PairRoutes) → (if b then o else None) ≡ Some paths → o ≡ Some paths
set_if_some true o paths is = is
set_if_some false o paths is = absurd (none-some paths is)

-- rates are chosen anew over the set of paths of a plan alone
pub adapted_set : (recovery : Recovery) (failed : List Bool) (o : Option (List PairRoutes)) (paths : List PairRoutes) →
    paths_to_adapt recovery failed o ≡ Some paths → o ≡ Some paths
adapted_set Keep failed o paths is = absurd (none-some paths is)
adapted_set Scale failed o paths is = absurd (none-some paths is)
adapted_set Bypass failed o paths is = absurd (none-some paths is)
adapted_set Reroute failed o paths is = absurd (none-some paths is)
adapted_set Adapt failed o paths is = set_if_some (list_any (λ mark. mark) failed) o paths is

-- and not of a plan that keeps none
pub none_adapted : (recovery : Recovery) (failed : List Bool) → paths_to_adapt recovery failed None ≡ None
none_adapted Keep failed = refl
none_adapted Scale failed = refl
none_adapted Bypass failed = refl
none_adapted Reroute failed = refl
none_adapted Adapt failed = go (list_any (λ mark. mark) failed)
  where
    go : (b : Bool) → ◌≡◌ {A = Option (List PairRoutes)} (if b then None else None) None
    go true = refl
    go false = refl

module _ {Plan Note : Type 0} (limit : ℕ) (is_plan : Network → List Pair → Plan → Type 0)
    (relates : Network → List Pair → Plan → List ℕ → List PairRoutes → Note → Type 0) (low : Note → Option ℕ)
    (path_set : Plan → Option (List PairRoutes)) (adapts : Network → List PairRoutes → List ℕ → List PairRoutes → Option ℕ → Type 0) where
  -- the pairs of the plan by which a routing was made
  pub planned_by : (net : Network) (failed : List Bool) (pairs : List Pair) (predicted : Option (List ℕ)) (demand : List ℕ) (plan : Plan) (routes : List PairRoutes)
      (most : ℕ) (bound : Option ℕ) (o : Option (List PairRoutes)) →
      MatchOption o (IsRouted limit is_plan relates low net pairs predicted demand plan routes most bound)
      (λ paths. IsAdaptedOn limit is_plan relates low path_set adapts net failed pairs predicted demand plan paths routes most bound) →
      (has_path : Pair → Bool) × TellsPaths net has_path × is_plan net (filter has_path pairs) plan
  planned_by net failed pairs predicted demand plan routes most bound None is = (is.has_path, is.tells, is.planned)
  planned_by net failed pairs predicted demand plan routes most bound (Some paths) is = (is.has_path, is.tells, is.planned)
