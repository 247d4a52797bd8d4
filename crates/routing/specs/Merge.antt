-- Weighted paths of which equal ones are taken together.
use Rattle.std.specs.Prelude.{◌≡◌, ◌⊎◌, ℕ, ◌+◌, ◌<◌, ◌≤◌, Bool, IsTrue, List, [], All, length, slice_index_or, sum_by, if◌then◌else◌}
use Rattle.te_model.specs.declared.route.PathShare.{PathShare}
use Rattle.te_model.specs.Validity.{paths_ascend}

-- what stands for a path that is not there
abbrev pub no_path : PathShare
no_path = record { links = []; weight = 0 }

-- the path at a place
abbrev pub path_at : List PathShare → ℕ → PathShare
path_at paths k = slice_index_or paths k no_path

abbrev pub links_at : List PathShare → ℕ → List ℕ
links_at paths k = (path_at paths k).links

-- one of the paths has these links
abbrev pub HasLinks : List PathShare → List ℕ → Type 0
HasLinks paths links = (k : ℕ) × (k < length paths) × (links_at paths k ≡ links)

-- the weights of those paths whose lists of links pass the test
abbrev pub weight_where : (List ℕ → Bool) → List PathShare → ℕ
weight_where test paths = sum_by (λ s. if test s.links then s.weight else 0) paths

-- the same lists of links in ascending order, each once and with the weights of all its places
pub record IsMerge (parts merged : List PathShare) : Type 0 where
  pub ascending : IsTrue (paths_ascend merged)
  pub kept : (links : List ℕ) → HasLinks parts links → HasLinks merged links
  pub only : (links : List ℕ) → HasLinks merged links → HasLinks parts links
  pub weights : (test : List ℕ → Bool) → weight_where test merged ≡ weight_where test parts
  pub positive : All (λ s. 1 ≤ s.weight) parts → All (λ s. 1 ≤ s.weight) merged
  pub few : length merged ≤ length parts

-- ascending paths with one part more
pub record IsAdded (old : List PathShare) (part : PathShare) (new : List PathShare) : Type 0 where
  pub ascending : IsTrue (paths_ascend new)
  pub kept : (links : List ℕ) → HasLinks old links → HasLinks new links
  pub has : HasLinks new part.links
  pub only : (links : List ℕ) → HasLinks new links → HasLinks old links ⊎ (links ≡ part.links)
  pub weights : (test : List ℕ → Bool) → weight_where test new ≡ weight_where test old + (if test part.links then part.weight else 0)
  pub positive : All (λ s. 1 ≤ s.weight) old → 1 ≤ part.weight → All (λ s. 1 ≤ s.weight) new
  pub few : length new ≤ length old + 1
