-- The weights of paths that hold a link, one path after another.
use Rattle.std.proofs.Common.{◌≡◌, ℕ, ◌+◌, ◌<◌, ◌≤◌, List, length, get_or, take, subst, sym}
use Rattle.std.specs.Prelude.{sum_by, if◌then◌else◌}
use Rattle.std.proofs.lemmas.List.Sums.{sum_by_more_le_part, sum_by-le-sum_by}
use Rattle.te_model.specs.declared.route.PathShare.{PathShare}
use Rattle.te_model.specs.Path.{has_number, weight_on}
use Rattle.te_model.proofs.Conditionals.{if_le-self}

pub weight_on_more_le : (paths : List PathShare) (e i : ℕ) (s : PathShare) → i < length paths → s ≡ get_or paths i s →
    weight_on (take i paths) e + s.weight ≤ sum_by (λ t. t.weight) paths
weight_on_more_le paths e i s below is =
    let h : weight_on (take i paths) e + (get_or paths i s).weight ≤ sum_by (λ t. t.weight) paths =
    sum_by_more_le_part (λ t. if has_number t.links e then t.weight else 0) (λ t. t.weight) paths i s below
    (λ t. if_le-self (has_number t.links e) t.weight)
    in
    let P : PathShare → Type 0 = λ t. weight_on (take i paths) e + t.weight ≤ sum_by (λ t. t.weight) paths in
    subst P (sym is) h

pub weight_on_le : (paths : List PathShare) (e : ℕ) → weight_on paths e ≤ sum_by (λ t. t.weight) paths
weight_on_le paths e =
    sum_by-le-sum_by (λ t. if has_number t.links e then t.weight else 0) (λ t. t.weight) paths (λ t. if_le-self (has_number t.links e) t.weight)
