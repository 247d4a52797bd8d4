-- The paths of two routings, side by side.
use Rattle.std.specs.Prelude.{◌≡◌, ℕ, zero, suc, ◌+◌, ◌≤◌, List, [], ◌++◌, All, IsTrue, Bool, length, slice_index, slice_index_or, sum_by, if◌then◌else◌}
use Rattle.std.specs.List.{AllPairs}
use Rattle.te_model.specs.declared.network.Network.{Network}
use Rattle.te_model.specs.declared.route.PathShare.{PathShare}
use Rattle.te_model.specs.declared.route.PairRoutes.{PairRoutes}
use Rattle.te_model.specs.Network.{link_count, capacity_of}
use Rattle.te_model.specs.Path.{has_number, routes_at}
use Rattle.te_model.specs.Validity.{list_below}
use Rattle.routing.specs.Merge.{weight_where}
use Rattle.update_plan.specs.declared.path.UpdatePath.{UpdatePath}
use Rattle.update_plan.specs.Update.{Update}

-- the weights of those paths whose lists of links pass the test
abbrev pub weight_by : (UpdatePath → ℕ) → (List ℕ → Bool) → List UpdatePath → ℕ
weight_by weight test paths = sum_by (λ u. if test u.links then weight u else 0) paths

-- The paths of pair p in two splits, side by side: ascending by their lists of links, each once, with its weight in the one and
-- in the other, which is 0 where that has no such path. For each test of lists of links the weights sum to those of the split.
pub record AreSideBySide (p : ℕ) (before after : List PathShare) (paths : List UpdatePath) : Type 0 where
  pub ascending : AllPairs (λ u v. IsTrue (list_below u.links v.links)) paths
  pub own : All (λ u. (u.pair ≡ p) × (1 ≤ u.before + u.after)) paths
  pub before_is : (test : List ℕ → Bool) → weight_by (λ u. u.before) test paths ≡ weight_where test before
  pub after_is : (test : List ℕ → Bool) → weight_by (λ u. u.after) test paths ≡ weight_where test after

-- the paths of the first n pairs: those of pair 0, then of pair 1, and so on
abbrev pub ArePaths : ℕ → List PairRoutes → List PairRoutes → List UpdatePath → Type 0
ArePaths zero before after paths = paths ≡ []
ArePaths (suc n) before after paths =
    (earlier : List UpdatePath) × (own : List UpdatePath) × (paths ≡ earlier ++ own) × ArePaths n before after earlier
    × AreSideBySide n (routes_at before n).paths (routes_at after n).paths own

-- what stands for a path that is not there
abbrev pub no_update : UpdatePath
no_update = record { pair = 0; before = 0; after = 0; links = [] }

-- path k
abbrev pub update_at : List UpdatePath → ℕ → UpdatePath
update_at paths k = slice_index_or paths k no_update

-- the update of these paths on the network under these demands of the pairs
abbrev pub update_of : Network → List ℕ → List UpdatePath → Update
update_of net demand paths = record {
  paths = length paths;
  demand = λ k. slice_index demand (update_at paths k).pair;
  before = λ k. (update_at paths k).before;
  after = λ k. (update_at paths k).after;
  holds = λ k e. has_number (update_at paths k).links e;
  links = link_count net;
  capacity = capacity_of net;
}
