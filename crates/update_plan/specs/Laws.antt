-- Laws of safe updates, as statements.
use Rattle.std.specs.Prelude.{◌↔◌, ◌≡◌, ℕ, suc, ◌+◌, ◌-◌, ◌*◌, ◌<◌, ◌≤◌, List, length, max}
use Rattle.te_model.specs.declared.network.Network.{Network}
use Rattle.te_model.specs.declared.route.PairRoutes.{PairRoutes}
use Rattle.te_model.specs.declared.units.TheConstants.{SHARE_UNIT}
use Rattle.te_model.specs.PathRouting.{IsPathRouting}
use Rattle.routing.specs.Routes.{load_on}
use Rattle.update_plan.specs.declared.path.UpdatePath.{UpdatePath}
use Rattle.update_plan.specs.Update.{Update, stage_weight, load_by, IsSafe, LeaveFree}
use Rattle.update_plan.specs.Paths.{ArePaths, update_of}

-- the test of link e at stage j: each path has the greater of its two weights
abbrev pub FitsStage : Update → ℕ → ℕ → ℕ → Type 0
FitsStage x K j e = load_by x (λ k. max (stage_weight x K j k) (stage_weight x K (suc j) k)) e ≤ K * SHARE_UNIT * x.capacity e

-- what grows on link e
abbrev pub growth_on : Update → ℕ → ℕ
growth_on x e = load_by x (λ k. x.after k - x.before k) e

-- what shrinks on link e
abbrev pub decline_on : Update → ℕ → ℕ
decline_on x e = load_by x (λ k. x.before k - x.after k) e

-- the tests of link e at the first and at the last stage
pub record FitsEnds (x : Update) (K e : ℕ) : Type 0 where
  pub first : K * load_by x x.before e + growth_on x e ≤ K * SHARE_UNIT * x.capacity e
  pub last : K * load_by x x.after e + decline_on x e ≤ K * SHARE_UNIT * x.capacity e

-- K steps are enough on a link of capacity `whole` with these loads before and after, and what grows and shrinks on it
pub record AreEnough (whole before after growth decline K : ℕ) : Type 0 where
  pub before_fits : before ≤ whole
  pub after_fits : after ≤ whole
  pub growth_fits : growth ≤ K * (whole - before)
  pub decline_fits : decline ≤ K * (whole - after)

-- K steps are enough on link e
abbrev pub HasSteps : Update → ℕ → ℕ → Type 0
HasSteps x K e =
    AreEnough (SHARE_UNIT * x.capacity e) (load_by x x.before e) (load_by x x.after e) (growth_on x e) (decline_on x e) K

-- Safe is one test for each link and stage.
abbrev pub SafeByStages : Type 0
SafeByStages = (x : Update) (K : ℕ) → IsSafe x K ↔ ((j e : ℕ) → j < K → e < x.links → FitsStage x K j e)

-- Of these the first and the last stage decide.
abbrev pub SafeByEnds : Type 0
SafeByEnds = (x : Update) (K : ℕ) → 1 ≤ K → IsSafe x K ↔ ((e : ℕ) → e < x.links → FitsEnds x K e)

-- More steps are no less safe.
abbrev pub SafeForMore : Type 0
SafeForMore = (x : Update) (K L : ℕ) → 1 ≤ K → K ≤ L → IsSafe x K → IsSafe x L

-- So the least number of steps is the greatest quotient over the links, rounded up, and at least 1.
abbrev pub SafeByQuotients : Type 0
SafeByQuotients = (x : Update) (K : ℕ) → 1 ≤ K → IsSafe x K ↔ ((e : ℕ) → e < x.links → HasSteps x K e)

-- Where both routings leave a share 1 / (k + 1) of each link free, k steps are safe.
abbrev pub SafeWithSlack : Type 0
SafeWithSlack = (x : Update) (k : ℕ) → 1 ≤ k → LeaveFree x k → IsSafe x k

-- Two routings have one list of paths.
abbrev pub OneListOfPaths : Type 0
OneListOfPaths =
    (net : Network) (before after : List PairRoutes) → IsPathRouting net before → IsPathRouting net after → length after ≡ length before →
    ((paths : List UpdatePath) × ArePaths (length before) before after paths)
    × ((paths others : List UpdatePath) → ArePaths (length before) before after paths → ArePaths (length before) before after others → paths ≡ others)

-- By its weights before and after the load is that of each routing.
abbrev pub LoadsAreOfRoutings : Type 0
LoadsAreOfRoutings =
    (net : Network) (before after : List PairRoutes) (demand : List ℕ) (paths : List UpdatePath) → length after ≡ length before →
    ArePaths (length before) before after paths → (e : ℕ) →
    (load_by (update_of net demand paths) (update_of net demand paths).before e ≡ load_on before demand e)
    × (load_by (update_of net demand paths) (update_of net demand paths).after e ≡ load_on after demand e)
