-- Weight taken off one path of a pair.
use Rattle.std.specs.Prelude.{◌≡◌, ℕ, ◌+◌, ◌≤◌, Bool, List, All, if◌then◌else◌}
use Rattle.te_model.specs.declared.route.PathShare.{PathShare}
use Rattle.routing.specs.Merge.{links_at, weight_where}

-- the paths without these units of the path at place k: a path without weight is none
pub record IsLessened (old : List PathShare) (k units : ℕ) (new : List PathShare) : Type 0 where
  pub weights : (test : List ℕ → Bool) → weight_where test new + (if test (links_at old k) then units else 0) ≡ weight_where test old
  pub positive : All (λ s. 1 ≤ s.weight) new
