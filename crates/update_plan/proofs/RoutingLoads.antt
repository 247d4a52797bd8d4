-- By its weights before and after, the load of an update is that of each routing.
use Rattle.std.proofs.Common.{◌≡◌, ℕ, zero, suc, ◌+◌, ◌*◌, ◌≤◌, Bool, List, [], ◌∷◌, length, take, arith, refl, ap, sym, ◌∙◌, All}
use Rattle.std.specs.Prelude.{slice_index, sum_by, if◌then◌else◌}
use Rattle.std.proofs.lemmas.List.{take_all}
use Rattle.std.proofs.lemmas.List.Sums.{sum_by-append, sum_by-cons, sum_by_more}
use Rattle.te_model.specs.declared.route.PairRoutes.{PairRoutes}
use Rattle.te_model.specs.Counting.{sum_below}
use Rattle.te_model.specs.Flow.{load}
use Rattle.te_model.specs.Path.{has_number, share}
use Rattle.te_model.proofs.Sums.{mul-pick}
use Rattle.update_plan.specs.declared.path.UpdatePath.{UpdatePath}
use Rattle.update_plan.specs.Laws.{LoadsAreOfRoutings}
use Rattle.update_plan.specs.Paths.{ArePaths, no_update, update_at, weight_by}

-- a sum over the places of a list is one over the list
sums_first : (f : UpdatePath → ℕ) (xs : List UpdatePath) (n : ℕ) → n ≤ length xs → sum_below n (λ k. f (update_at xs k)) ≡ sum_by f (take n xs)
sums_first f xs zero le = refl
sums_first f xs (suc n) le =
    let e : n + 1 ≡ suc n = omega arith in
    omega (arith, sums_first f xs n (omega (arith, le)), sum_by_more f xs n no_update (omega (arith, le)), ap (λ m. sum_by f (take m xs)) e)

pub sums_all : (f : UpdatePath → ℕ) (xs : List UpdatePath) → sum_below (length xs) (λ k. f (update_at xs k)) ≡ sum_by f xs
sums_all f xs = sums_first f xs (length xs) (omega arith) ∙ ap (sum_by f) (take_all (length xs) xs (omega arith))

-- paths of one pair put its demand times their weights there
own_load : (demand : List ℕ) (weight : UpdatePath → ℕ) (test : List ℕ → Bool) (p : ℕ) (own : List UpdatePath) →
    All (λ u. (u.pair ≡ p) × (1 ≤ u.before + u.after)) own →
    sum_by (λ u. if test u.links then slice_index demand u.pair * weight u else 0) own ≡ slice_index demand p * weight_by weight test own
own_load demand weight test p [] all = omega arith
own_load demand weight test p (u ∷ us) all =
    let f : UpdatePath → ℕ = λ v. if test v.links then slice_index demand v.pair * weight v else 0 in
    let g : UpdatePath → ℕ = λ v. if test v.links then weight v else 0 in
    let pair : u.pair ≡ p = (all 0 no_update (omega arith)).0 in
    let here : f u ≡ slice_index demand p * g u =
    ap (λ q. if test u.links then slice_index demand q * weight u else 0) pair ∙ sym (mul-pick (test u.links) (slice_index demand p) (weight u))
    in
    let later = own_load demand weight test p us (λ k d below. all (suc k) d (omega (arith, below))) in
    let whole = ap (λ s. slice_index demand p * s) (sum_by-cons g u us) in
    omega (arith, sum_by-cons f u us, here, later, whole)

-- the paths of the first n pairs put there what these pairs do
pairs_load : (demand : List ℕ) (n : ℕ) (before after : List PairRoutes) (paths : List UpdatePath) → ArePaths n before after paths → (e : ℕ) →
    (sum_by (λ u. if has_number u.links e then slice_index demand u.pair * u.before else 0) paths ≡ load n (slice_index demand) (share before) e)
    × (sum_by (λ u. if has_number u.links e then slice_index demand u.pair * u.after else 0) paths ≡ load n (slice_index demand) (share after) e)
pairs_load demand zero before after paths is e = (
  ap (sum_by (λ (u : UpdatePath). if has_number u.links e then slice_index demand u.pair * u.before else 0)) is,
  ap (sum_by (λ (u : UpdatePath). if has_number u.links e then slice_index demand u.pair * u.after else 0)) is,
)
pairs_load demand (suc n) before after paths (earlier, own, is, rest, side) e =
    let test : List ℕ → Bool = λ l. has_number l e in
    let f : UpdatePath → ℕ = λ u. if has_number u.links e then slice_index demand u.pair * u.before else 0 in
    let g : UpdatePath → ℕ = λ u. if has_number u.links e then slice_index demand u.pair * u.after else 0 in
    let was = pairs_load demand n before after earlier rest e in
    let f_own : sum_by f own ≡ slice_index demand n * share before n e =
    own_load demand (λ u. u.before) test n own side.own ∙ ap (λ s. slice_index demand n * s) (side.before_is test)
    in
    let g_own : sum_by g own ≡ slice_index demand n * share after n e =
    own_load demand (λ u. u.after) test n own side.own ∙ ap (λ s. slice_index demand n * s) (side.after_is test)
    in
    let f_next : load (suc n) (slice_index demand) (share before) e ≡ load n (slice_index demand) (share before) e + slice_index demand n * share before n e = refl in
    let g_next : load (suc n) (slice_index demand) (share after) e ≡ load n (slice_index demand) (share after) e + slice_index demand n * share after n e = refl in (
      omega (arith, ap (sum_by f) is, sum_by-append f earlier own, was.0, f_own, f_next),
      omega (arith, ap (sum_by g) is, sum_by-append g earlier own, was.1, g_own, g_next),
    )

pub loads_are_of_routings : LoadsAreOfRoutings
loads_are_of_routings net before after demand paths same are e =
    let loads = pairs_load demand (length before) before after paths are e in
    let count : length after ≡ length before = same in (
      sums_all (λ u. if has_number u.links e then slice_index demand u.pair * u.before else 0) paths ∙ loads.0,
      sums_all (λ u. if has_number u.links e then slice_index demand u.pair * u.after else 0) paths
          ∙ (loads.1 ∙ ap (λ n. load n (slice_index demand) (share after) e) (sym count)),
    )
