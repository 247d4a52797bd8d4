-- Weight that goes from one path of a pair to another.
use Rattle.std.proofs.Common.{inl, inr, ◌⊎◌, ◌≡◌, ℕ, suc, ◌+◌, ◌<◌, ◌≤◌, Bool, true, false, List, [], ◌∷◌, ◌++◌, length, arith, refl, ap, sym, ◌∙◌, subst, All, if◌then◌else◌}
use Rattle.std.specs.Prelude.{remove, bytes_eq}
use Rattle.std.proofs.Math.ListN.{set}
use Rattle.std.proofs.lemmas.Slice.Eq.{bytes_eq-Decides}
use Rattle.std.proofs.lemmas.List.Elements.{All-get_or, All-from_get_or, All-push, All-set}
use Rattle.std.proofs.lemmas.List.Edits.{length-remove, get_or-remove_below, get_or-remove_above}
use Rattle.std.proofs.lemmas.List.Sums.{get_or-le-sum_by, sum_by-cons, sum_by-remove, sum_by-set, sum_by_push}
use Rattle.std.proofs.lemmas.Bool.{cases_lt}
use Rattle.te_model.specs.declared.route.PathShare.{PathShare}
use Rattle.routing.specs.Merge.{HasLinks, IsMerge, links_at, no_path, path_at, weight_where}
use Rattle.routing.specs.Split.{total_weight}
use Rattle.routing.proofs.Merged.{some_path}
use Rattle.local_search.specs.Moves.{IsShift}
use Rattle.local_search.specs.Shifting.{IsLessened}

-- a path whose links pass the test has its weight among those that pass
path_weight : (test : List ℕ → Bool) (xs : List PathShare) (k : ℕ) → k < length xs → All (λ s. 1 ≤ s.weight) xs → test (links_at xs k) ≡ true →
    1 ≤ weight_where test xs
path_weight test xs k below positive passes =
    let f = λ (s : PathShare). if test s.links then s.weight else 0 in
    let here : f (path_at xs k) ≡ (path_at xs k).weight = ap (λ b. if b then (path_at xs k).weight else 0) passes in
    omega (arith, here, get_or-le-sum_by f xs k no_path below, All-get_or (λ s. 1 ≤ s.weight) xs k no_path below positive)

-- no path comes but the one to which the weight goes
pub shift_only : (old : List PathShare) (from to : List ℕ) (units : ℕ) (new : List PathShare) (links : List ℕ) → IsShift old from to units new →
    HasLinks new links → HasLinks old links ⊎ (links ≡ to)
shift_only old from to units new links shift (k, below, at) = go (bytes_eq to links) refl (shift.weights (λ l. bytes_eq l links))
  where
    some : 1 ≤ weight_where (λ l. bytes_eq l links) new
    some = path_weight (λ l. bytes_eq l links) new k below shift.positive ((bytes_eq-Decides (links_at new k) links).1 at)

    go : (b : Bool) → bytes_eq to links ≡ b →
        weight_where (λ l. bytes_eq l links) new + (if bytes_eq from links then units else 0) ≡ weight_where (λ l. bytes_eq l links) old + (if b then units else 0) →
        HasLinks old links ⊎ (links ≡ to)
    go true is sums = inr (sym ((bytes_eq-Decides to links).0 is))
    go false is sums =
        let (j, inside, found) = some_path (λ l. bytes_eq l links) old (omega (arith, some, sums)) in
        inl (j, inside, (bytes_eq-Decides (links_at old j) links).0 found)

-- the whole weight stays
pub shift_total : (old : List PathShare) (from to : List ℕ) (units : ℕ) (new : List PathShare) → IsShift old from to units new →
    total_weight new ≡ total_weight old
shift_total old from to units new shift = omega (arith, shift.weights (λ l. true))

all_remove : (P : PathShare → Type 0) (xs : List PathShare) (i : ℕ) → i < length xs → All P xs → All P (remove xs i)
all_remove P xs i inside all = All-from_get_or P (remove xs i) no_path (λ k below.
    elim (cases_lt k i) [
      | inl lt ↦ subst P (sym (get_or-remove_below xs i no_path k lt inside)) (All-get_or P xs k no_path (omega arith) all)
      | inr ge ↦ subst P (sym (get_or-remove_above xs i no_path k ge inside))
          (All-get_or P xs (k + 1) no_path (omega (arith, below, length-remove xs i inside)) all)
    ])

-- the path is taken out with its whole weight
pub lessened_out : (xs : List PathShare) (k : ℕ) → k < length xs → All (λ s. 1 ≤ s.weight) xs → IsLessened xs k (path_at xs k).weight (remove xs k)
lessened_out xs k inside all = record {
  weights = λ test. sum_by-remove (λ s. if test s.links then s.weight else 0) xs k no_path inside;
  positive = all_remove (λ s. 1 ≤ s.weight) xs k inside all;
}

split_if : (b : Bool) (x z v w u : ℕ) → x + (if b then v else 0) ≡ z + (if b then w else 0) → w + u ≡ v → x + (if b then u else 0) ≡ z
split_if true x z v w u e f = omega (arith, e, f)
split_if false x z v w u e f = omega (arith, e)

-- the path stays with less weight
pub lessened_at : (xs : List PathShare) (k units : ℕ) (y : PathShare) → k < length xs → All (λ s. 1 ≤ s.weight) xs →
    y.links ≡ links_at xs k → y.weight + units ≡ (path_at xs k).weight → 1 ≤ y.weight → IsLessened xs k units (set xs k y)
lessened_at xs k units y inside all links weight some = record {
  weights = weights;
  positive = All-set (λ s. 1 ≤ s.weight) xs k y some all;
}
  where
    weights : (test : List ℕ → Bool) → weight_where test (set xs k y) + (if test (links_at xs k) then units else 0) ≡ weight_where test xs
    weights test =
        let f = λ (s : PathShare). if test s.links then s.weight else 0 in
        let sums = sum_by-set f xs k y no_path inside in
        let new : f y ≡ (if test (links_at xs k) then y.weight else 0) = ap (λ l. if test l then y.weight else 0) links in
        split_if (test (links_at xs k)) (weight_where test (set xs k y)) (weight_where test xs) (path_at xs k).weight y.weight units
        (sums ∙ ap (λ n. weight_where test xs + n) new) weight

-- the weight that is taken off, put on another path, and equal paths taken together
pub shift_from_merge : (old left new : List PathShare) (k units : ℕ) (to : List ℕ) (y : PathShare) → IsLessened old k units left →
    y ≡ record { links = to; weight = units } → 1 ≤ units → IsMerge (left ++ y ∷ []) new → IsShift old (links_at old k) to units new
shift_from_merge old left new k units to y less is some merge = record {
  ascending = merge.ascending;
  positive = merge.positive (All-push (λ s. 1 ≤ s.weight) left y less.positive (subst (λ s. 1 ≤ s.weight) (sym is) some));
  weights = λ test.
      let pushed = sum_by_push (λ s. if test s.links then s.weight else 0) left y in
      let part : (if test y.links then y.weight else 0) ≡ (if test to then units else 0) = ap (λ (s : PathShare). if test s.links then s.weight else 0) is in
      omega (arith, merge.weights test, pushed, part, less.weights test);
}
