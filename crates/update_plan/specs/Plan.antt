-- The least number of steps of an update, and where there is none.
use Rattle.std.specs.Prelude.{◌≡◌, ℕ, ◌+◌, ◌*◌, ◌<◌, ◌≤◌, List, length, Result, Ok, Err}
use Rattle.te_model.specs.declared.network.Network.{Network}
use Rattle.te_model.specs.declared.route.PairRoutes.{PairRoutes}
use Rattle.te_model.specs.declared.units.TheConstants.{SHARE_UNIT}
use Rattle.te_model.specs.Network.{link_count, capacity_of}
use Rattle.routing.specs.Routes.{load_on}
use Rattle.update_plan.specs.declared.fault.UpdateFault.{UpdateFault}
use Rattle.update_plan.specs.declared.fault.UpdateFault.TheVariants as faults
use Rattle.update_plan.specs.declared.path.UpdatePath.{UpdatePath}
use Rattle.update_plan.specs.declared.path.UpdatePlan.{UpdatePlan}
use Rattle.update_plan.specs.declared.path.TheConstants.{MAX_STEPS}
use Rattle.update_plan.specs.Update.{Update, IsSafe, IsSafeOn}
use Rattle.update_plan.specs.Paths.{ArePaths, update_of}

-- 1 to 1000 steps are safe, and no fewer are
pub record IsLeastSafe (x : Update) (steps : ℕ) : Type 0 where
  pub some : 1 ≤ steps
  pub few : steps ≤ MAX_STEPS
  pub safe : IsSafe x steps
  pub least : (K : ℕ) → 1 ≤ K → K < steps → ¬ IsSafe x K

-- no number of steps up to 1000 is safe, and link e is the first on which 1000 steps are not
pub record LacksSlack (x : Update) (e : ℕ) : Type 0 where
  pub inside : e < x.links
  pub none : (K : ℕ) → 1 ≤ K → K ≤ MAX_STEPS → ¬ IsSafe x K
  pub fails : ¬ IsSafeOn x MAX_STEPS e
  pub first : (h : ℕ) → h < e → IsSafeOn x MAX_STEPS h

-- the paths of the two routings, in the least number of steps that is safe under these demands
abbrev pub IsPlanOf : Network → List PairRoutes → List PairRoutes → List ℕ → UpdatePlan → Type 0
IsPlanOf net before after demand plan =
    ArePaths (length before) before after plan.paths × IsLeastSafe (update_of net demand plan.paths) plan.steps

-- their update lacks slack on link e
abbrev pub LacksSlackOn : Network → List PairRoutes → List PairRoutes → List ℕ → ℕ → Type 0
LacksSlackOn net before after demand e =
    (paths : List UpdatePath) × ArePaths (length before) before after paths × LacksSlack (update_of net demand paths) e

-- both routings leave a share 1 / (k + 1) of each link free
pub record LeaveRoutesFree (net : Network) (old new : List PairRoutes) (demand : List ℕ) (k : ℕ) : Type 0 where
  pub before : (e : ℕ) → e < link_count net → (k + 1) * load_on old demand e ≤ k * SHARE_UNIT * capacity_of net e
  pub after : (e : ℕ) → e < link_count net → (k + 1) * load_on new demand e ≤ k * SHARE_UNIT * capacity_of net e

-- a plan of at most k steps, or want of memory
abbrev pub HasPlanWithin : ℕ → Result UpdatePlan UpdateFault → Type 0
HasPlanWithin k (Ok plan) = plan.steps ≤ k
HasPlanWithin k (Err fault) = fault ≡ faults.Memory
