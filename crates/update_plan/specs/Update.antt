-- Updates from one routing to another in steps, inside which each path has moved or not (after SWAN; Hong and others, 2013).
use Rattle.std.specs.Prelude.{ℕ, suc, ◌+◌, ◌-◌, ◌*◌, ◌<◌, ◌≤◌, Bool, if◌then◌else◌}
use Rattle.te_model.specs.declared.units.TheConstants.{SHARE_UNIT}
use Rattle.te_model.specs.Counting.{sum_below}

-- paths of pairs with these demands, their weights before and after, and which links they hold; links and their capacities
pub record Update : Type 0 where
  pub paths : ℕ
  pub demand : ℕ → ℕ
  pub before : ℕ → ℕ
  pub after : ℕ → ℕ
  pub holds : ℕ → ℕ → Bool
  pub links : ℕ
  pub capacity : ℕ → ℕ

-- the weight of path k at stage j of K steps, where weights sum to K times the unit
abbrev pub stage_weight : Update → ℕ → ℕ → ℕ → ℕ
stage_weight x K j k = (K - j) * x.before k + j * x.after k

-- the demands by these weights, over the paths that hold link e
abbrev pub load_by : Update → (ℕ → ℕ) → ℕ → ℕ
load_by x w e = sum_below x.paths (λ k. if x.holds k e then x.demand k * w k else 0)

-- in step j a path that has moved has its weight of stage j + 1, and any other that of stage j
abbrev pub mixed_weight : Update → ℕ → ℕ → (ℕ → Bool) → ℕ → ℕ
mixed_weight x K j choice k = if choice k then stage_weight x K (suc j) k else stage_weight x K j k

-- link e is not overloaded, whichever paths have moved inside each step
abbrev pub IsSafeOn : Update → ℕ → ℕ → Type 0
IsSafeOn x K e = (j : ℕ) → j < K → (choice : ℕ → Bool) →
    load_by x (mixed_weight x K j choice) e ≤ K * SHARE_UNIT * x.capacity e

-- no link is overloaded, whichever paths have moved inside each step
abbrev pub IsSafe : Update → ℕ → Type 0
IsSafe x K = (e : ℕ) → e < x.links → IsSafeOn x K e

-- both routings leave a share 1 / (k + 1) of each link free
pub record LeaveFree (x : Update) (k : ℕ) : Type 0 where
  pub before : (e : ℕ) → e < x.links → (k + 1) * load_by x x.before e ≤ k * SHARE_UNIT * x.capacity e
  pub after : (e : ℕ) → e < x.links → (k + 1) * load_by x x.after e ≤ k * SHARE_UNIT * x.capacity e
