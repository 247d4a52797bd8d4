-- The walk over the paths of a pair in two splits: which path comes next.
use Rattle.std.specs.Prelude.{ℕ, ◌+◌, Bool, not, ◌&&◌, ◌||◌, List, length, nat_lt, if◌then◌else◌}
use Rattle.te_model.specs.declared.route.PathShare.{PathShare}
use Rattle.te_model.specs.Validity.{list_below}
use Rattle.routing.specs.Merge.{links_at, path_at}
use Rattle.update_plan.specs.declared.path.UpdatePath.{UpdatePath}

-- whether path i is there, and path j of the others does not come before it
abbrev pub comes_next : List PathShare → ℕ → List PathShare → ℕ → Bool
comes_next paths i others j =
    nat_lt i (length paths) && not (nat_lt j (length others) && list_below (links_at others j) (links_at paths i))

-- its weight, where it comes next
abbrev pub next_weight : List PathShare → ℕ → List PathShare → ℕ → ℕ
next_weight paths i others j = if comes_next paths i others j then (path_at paths i).weight else 0

-- the next path of pair p
abbrev pub next_update : ℕ → List PathShare → ℕ → List PathShare → ℕ → UpdatePath
next_update p before i after j = record {
  pair = p;
  before = next_weight before i after j;
  after = next_weight after j before i;
  links = if comes_next before i after j then links_at before i else links_at after j;
}

-- whether a path is left of either
abbrev pub is_left : List PathShare → ℕ → List PathShare → ℕ → Bool
is_left before i after j = nat_lt i (length before) || nat_lt j (length after)

-- the place behind a path that was taken
abbrev pub place_after : Bool → ℕ → ℕ
place_after taken place = if taken then place + 1 else place
