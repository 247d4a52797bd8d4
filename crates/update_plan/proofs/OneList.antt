-- Two routings have one list of paths, side by side.
use Rattle.std.proofs.Common.{inl, inr, ◌≡◌, ℕ, zero, suc, ◌+◌, ◌-◌, ◌≤◌, Bool, true, false, List, [], ◌∷◌, ◌++◌, length, get_or, arith, refl, ap, sym, ◌∙◌, subst, All}
use Rattle.std.specs.Prelude.{IsTrue, bytes_eq, sum_by, if◌then◌else◌}
use Rattle.std.specs.List.{AllPairs}
use Rattle.std.proofs.lemmas.Bool.{cases_lt}
use Rattle.std.proofs.lemmas.List.Elements.{All-cons}
use Rattle.std.proofs.lemmas.List.Sums.{sum_by-cons}
use Rattle.std.proofs.lemmas.Slice.Eq.{bytes_eq-Decides}
use Rattle.te_model.specs.declared.network.Network.{Network}
use Rattle.te_model.specs.declared.route.PathShare.{PathShare}
use Rattle.te_model.specs.declared.route.PairRoutes.{PairRoutes}
use Rattle.te_model.specs.Path.{routes_at}
use Rattle.te_model.specs.PathRouting.{IsPathRouting, IsPathSplit}
use Rattle.te_model.specs.Validity.{list_below, paths_ascend}
use Rattle.te_model.proofs.Conditionals.{if_false, if_true}
use Rattle.te_model.proofs.ListOrder.{list_below-cases, list_below-irrefl, list_below-trans}
use Rattle.update_plan.specs.declared.path.UpdatePath.{UpdatePath}
use Rattle.update_plan.specs.Laws.{OneListOfPaths}
use Rattle.update_plan.specs.Paths.{ArePaths, AreSideBySide, no_update, weight_by}
use Rattle.update_plan.specs.Walk.{comes_next, next_update, place_after}
use Rattle.update_plan.proofs.PlanPaths.{split_at}
use Rattle.update_plan.proofs.Walking.{IsWalked, walk_end, walk_on, walk_smaller, walked_none}

-- the walk goes on to the end
walk_all : (p : ℕ) (before after : List PathShare) → paths_ascend before ≡ true → paths_ascend after ≡ true →
    All (λ s. 1 ≤ s.weight) before → All (λ s. 1 ≤ s.weight) after → (most i j : ℕ) (own : List UpdatePath) →
    (length before - i) + (length after - j) ≤ most → IsWalked p before after i j own →
    (all : List UpdatePath) × AreSideBySide p before after all × (length all ≤ length before + length after)
walk_all p before after asc asc' some some' zero i j own le walked =
    (own, walk_end p before after i j own (omega (arith, le)) (omega (arith, le)) walked, omega (arith, walked.few, walked.before.within, walked.after.within))
walk_all p before after asc asc' some some' (suc most) i j own le walked = elim (cases_lt i (length before)) [
  | inl i_in ↦ walk_all p before after asc asc' some some' most (place_after (comes_next before i after j) i) (place_after (comes_next after j before i) j)
      (own ++ next_update p before i after j ∷ []) (omega (arith, le, walk_smaller before after i j (inl i_in))) (walk_on p before after i j own asc asc' some some' (inl i_in) walked)
  | inr i_out ↦ elim (cases_lt j (length after)) [
    | inl j_in ↦ walk_all p before after asc asc' some some' most (place_after (comes_next before i after j) i) (place_after (comes_next after j before i) j)
        (own ++ next_update p before i after j ∷ []) (omega (arith, le, walk_smaller before after i j (inr j_in))) (walk_on p before after i j own asc asc' some some' (inr j_in) walked)
    | inr j_out ↦ (own, walk_end p before after i j own i_out j_out walked, omega (arith, walked.few, walked.before.within, walked.after.within))
  ]
]

pub side_by_side : (net : Network) (r s : PairRoutes) (p : ℕ) → IsPathSplit net r → IsPathSplit net s →
    (all : List UpdatePath) × AreSideBySide p r.paths s.paths all × (length all ≤ length r.paths + length s.paths)
side_by_side net r s p before after =
    walk_all p r.paths s.paths before.distinct after.distinct before.weights after.weights ((length r.paths - 0) + (length s.paths - 0)) 0 0 [] (omega arith) (walked_none p r.paths s.paths)

pub paths_exist : (net : Network) (before after : List PairRoutes) → IsPathRouting net before → IsPathRouting net after → length after ≡ length before →
    (n : ℕ) → n ≤ length before → (paths : List UpdatePath) × ArePaths n before after paths
paths_exist net before after old new same zero le = ([], refl)
paths_exist net before after old new same (suc n) le =
    let (earlier, rest) = paths_exist net before after old new same n (omega (arith, le)) in
    let (own, side, few) = side_by_side net (routes_at before n) (routes_at after n) n (split_at net before n old (omega (arith, le))) (split_at net after n new (omega (arith, le, same))) in
    (earlier ++ own, (earlier, own, refl, rest, side))

-- none of the paths behind some links has these
none_equal : (weight : UpdatePath → ℕ) (links : List ℕ) (ys : List UpdatePath) → All (λ v. list_below links v.links ≡ true) ys →
    weight_by weight (λ l. bytes_eq l links) ys ≡ 0
none_equal weight links [] behind = refl
none_equal weight links (v ∷ vs) behind =
    go (bytes_eq v.links links) refl (none_equal weight links vs (λ k d below. behind (suc k) d (omega (arith, below))))
  where
    go : (b : Bool) → bytes_eq v.links links ≡ b → weight_by weight (λ l. bytes_eq l links) vs ≡ 0 → weight_by weight (λ l. bytes_eq l links) (v ∷ vs) ≡ 0
    go true e later =
        let same = (bytes_eq-Decides v.links links).0 e in
        absurd (list_below-irrefl links (subst (λ l. list_below links l ≡ true) same (behind 0 no_update (omega arith))))
    go false e later =
        omega (
          arith,
          sum_by-cons (λ (u : UpdatePath). if bytes_eq u.links links then weight u else 0) v vs,
          if_false (bytes_eq v.links links) (weight v) e,
          later,
        )

-- the weight of the first path, by the paths that have its links
first_weight : (weight : UpdatePath → ℕ) (x : UpdatePath) (xs : List UpdatePath) → AllPairs (λ u v. IsTrue (list_below u.links v.links)) (x ∷ xs) →
    weight_by weight (λ l. bytes_eq l x.links) (x ∷ xs) ≡ weight x
first_weight weight x xs asc =
    omega (
      arith,
      sum_by-cons (λ (u : UpdatePath). if bytes_eq u.links x.links then weight u else 0) x xs,
      if_true (bytes_eq x.links x.links) (weight x) ((bytes_eq-Decides x.links x.links).1 refl),
      none_equal weight x.links xs (λ k d below. asc 0 (suc k) d (omega arith) (omega (arith, below))),
    )

-- nothing has links that come before the first path
before_first : (weight : UpdatePath → ℕ) (links : List ℕ) (y : UpdatePath) (ys : List UpdatePath) → AllPairs (λ u v. IsTrue (list_below u.links v.links)) (y ∷ ys) →
    list_below links y.links ≡ true → weight_by weight (λ l. bytes_eq l links) (y ∷ ys) ≡ 0
before_first weight links y ys asc lt =
    none_equal weight links (y ∷ ys) (All-cons (λ (v : UpdatePath). list_below links v.links ≡ true) y ys lt
    (λ k d below. list_below-trans links y.links (get_or ys k d).links lt (asc 0 (suc k) d (omega arith) (omega (arith, below)))))

-- the first path of one list is not before that of the other
not_before : (x y : UpdatePath) (xs ys : List UpdatePath) → 1 ≤ x.before + x.after →
    AllPairs (λ u v. IsTrue (list_below u.links v.links)) (x ∷ xs) → AllPairs (λ u v. IsTrue (list_below u.links v.links)) (y ∷ ys) →
    ((test : List ℕ → Bool) → weight_by (λ u. u.before) test (x ∷ xs) ≡ weight_by (λ u. u.before) test (y ∷ ys)) →
    ((test : List ℕ → Bool) → weight_by (λ u. u.after) test (x ∷ xs) ≡ weight_by (λ u. u.after) test (y ∷ ys)) →
    list_below x.links y.links ≡ true → ⊥
not_before x y xs ys some asc asc' before after lt =
    let test : List ℕ → Bool = λ l. bytes_eq l x.links in
    omega (
      arith,
      some,
      before test,
      after test,
      first_weight (λ u. u.before) x xs asc,
      first_weight (λ u. u.after) x xs asc,
      before_first (λ u. u.before) x.links y ys asc' lt,
      before_first (λ u. u.after) x.links y ys asc' lt,
    )

-- no list of paths has the weights of none
some_weight : (x : UpdatePath) (xs : List UpdatePath) → 1 ≤ x.before + x.after → weight_by (λ u. u.before) (λ l. true) (x ∷ xs) ≡ 0 →
    weight_by (λ u. u.after) (λ l. true) (x ∷ xs) ≡ 0 → ⊥
some_weight x xs some before after =
    let before' : sum_by (λ (u : UpdatePath). u.before) (x ∷ xs) ≡ 0 = before in
    let after' : sum_by (λ (u : UpdatePath). u.after) (x ∷ xs) ≡ 0 = after in
    omega (arith, some, before', after', sum_by-cons (λ (u : UpdatePath). u.before) x xs, sum_by-cons (λ (u : UpdatePath). u.after) x xs)

-- the rest has the same weights
rest_same : (weight : UpdatePath → ℕ) (x y : UpdatePath) (xs ys : List UpdatePath) → x ≡ y →
    ((test : List ℕ → Bool) → weight_by weight test (x ∷ xs) ≡ weight_by weight test (y ∷ ys)) → (test : List ℕ → Bool) →
    weight_by weight test xs ≡ weight_by weight test ys
rest_same weight x y xs ys same sums test =
    let f : UpdatePath → ℕ = λ u. if test u.links then weight u else 0 in
    omega (arith, sums test, sum_by-cons f x xs, sum_by-cons f y ys, ap f same)

same_path : (x y : UpdatePath) → x.pair ≡ y.pair → x.before ≡ y.before → x.after ≡ y.after → x.links ≡ y.links → x ≡ y
same_path x y pair before after links =
    ap (λ p. record { pair = p; before = x.before; after = x.after; links = x.links }) pair
    ∙ (ap (λ b. record { pair = y.pair; before = b; after = x.after; links = x.links }) before
    ∙ (ap (λ a. record { pair = y.pair; before = y.before; after = a; links = x.links }) after
    ∙ ap (λ l. record { pair = y.pair; before = y.before; after = y.after; links = l }) links))

-- ascending paths are known by their weights
same_lists : (p : ℕ) (xs ys : List UpdatePath) →
    AllPairs (λ u v. IsTrue (list_below u.links v.links)) xs → AllPairs (λ u v. IsTrue (list_below u.links v.links)) ys →
    All (λ u. (u.pair ≡ p) × (1 ≤ u.before + u.after)) xs → All (λ u. (u.pair ≡ p) × (1 ≤ u.before + u.after)) ys →
    ((test : List ℕ → Bool) → weight_by (λ u. u.before) test xs ≡ weight_by (λ u. u.before) test ys) →
    ((test : List ℕ → Bool) → weight_by (λ u. u.after) test xs ≡ weight_by (λ u. u.after) test ys) → xs ≡ ys
same_lists p [] [] asc asc' own own' before after = refl
same_lists p [] (y ∷ ys) asc asc' own own' before after =
    absurd (some_weight y ys (own' 0 no_update (omega arith)).1 (sym (before (λ l. true))) (sym (after (λ l. true))))
same_lists p (x ∷ xs) [] asc asc' own own' before after =
    absurd (some_weight x xs (own 0 no_update (omega arith)).1 (before (λ l. true)) (after (λ l. true)))
same_lists p (x ∷ xs) (y ∷ ys) asc asc' own own' before after = elim (list_below-cases x.links y.links) [
  | inl links ↦
      let test : List ℕ → Bool = λ l. bytes_eq l x.links in
      let weight : (w : UpdatePath → ℕ) → ((t : List ℕ → Bool) → weight_by w t (x ∷ xs) ≡ weight_by w t (y ∷ ys)) → w x ≡ w y =
      λ w sums. sym (first_weight w x xs asc) ∙ (sums test ∙ (ap (λ k. weight_by w (λ l. bytes_eq l k) (y ∷ ys)) links ∙ first_weight w y ys asc')) in
      let same = same_path x y (head.0 ∙ sym head'.0) (weight (λ u. u.before) before) (weight (λ u. u.after) after) links in
      let rest = same_lists p xs ys (λ i j d lt below. asc (suc i) (suc j) d (omega (arith, lt)) (omega (arith, below)))
      (λ i j d lt below. asc' (suc i) (suc j) d (omega (arith, lt)) (omega (arith, below)))
      (λ k d below. own (suc k) d (omega (arith, below))) (λ k d below. own' (suc k) d (omega (arith, below)))
      (rest_same (λ u. u.before) x y xs ys same before) (rest_same (λ u. u.after) x y xs ys same after)
      in
      ap (λ u. u ∷ xs) same ∙ ap (λ l. y ∷ l) rest
  | inr other ↦ elim other [
    | inl lt ↦ absurd (not_before x y xs ys head.1 asc asc' before after lt)
    | inr gt ↦ absurd (not_before y x ys xs head'.1 asc' asc (λ t. sym (before t)) (λ t. sym (after t)) gt)
  ]
]
  where
    head : (x.pair ≡ p) × (1 ≤ x.before + x.after)
    head = own 0 no_update (omega arith)

    head' : (y.pair ≡ p) × (1 ≤ y.before + y.after)
    head' = own' 0 no_update (omega arith)

-- one list for each pair
same_sides : (p : ℕ) (before after : List PathShare) (own others : List UpdatePath) → AreSideBySide p before after own → AreSideBySide p before after others → own ≡ others
same_sides p before after own others side other =
    same_lists p own others side.ascending other.ascending side.own other.own (λ t. side.before_is t ∙ sym (other.before_is t)) (λ t. side.after_is t ∙ sym (other.after_is t))

-- the paths of a pair are no more than those of the two splits
pub few_paths : (net : Network) (r s : PairRoutes) (p : ℕ) (own : List UpdatePath) → IsPathSplit net r → IsPathSplit net s → AreSideBySide p r.paths s.paths own →
    length own ≤ length r.paths + length s.paths
few_paths net r s p own before after side =
    let (all, sides, few) = side_by_side net r s p before after in
    omega (arith, ap (λ (l : List UpdatePath). length l) (same_sides p r.paths s.paths own all side sides), few)

pub same_paths : (before after : List PairRoutes) (n : ℕ) (xs ys : List UpdatePath) → ArePaths n before after xs → ArePaths n before after ys → xs ≡ ys
same_paths before after zero xs ys is is' = is ∙ sym is'
same_paths before after (suc n) xs ys (earlier, own, is, rest, side) (earlier', own', is', rest', side') =
    let first = same_paths before after n earlier earlier' rest rest' in
    let last = same_sides n (routes_at before n).paths (routes_at after n).paths own own' side side' in
    is ∙ (ap (λ l. l ++ own) first ∙ (ap (λ l. earlier' ++ l) last ∙ sym is'))

pub one_list : OneListOfPaths
one_list net before after old new same = (
  paths_exist net before after old new same (length before) (omega arith),
  λ paths others are are'. same_paths before after (length before) paths others are are',
)
