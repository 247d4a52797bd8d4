-- One path more among ascending paths.
use Rattle.std.proofs.Common.{◌⊎◌, inl, inr, ◌≡◌, ℕ, suc, ◌+◌, ◌-◌, ◌<◌, ◌≤◌, Bool, true, false, List, [], ◌∷◌, ◌++◌, length, get_or, arith, refl, ap, sym, ◌∙◌, subst, if◌then◌else◌}
use Rattle.std.specs.Prelude.{All, insert}
use Rattle.std.proofs.Math.ListN.{set}
use Rattle.std.proofs.lemmas.Bool.{cases_lt, cases_eq}
use Rattle.std.proofs.lemmas.List.{get_or-set_same, get_or-set_other, length-set, get_or_append_left, get_or_push, length-append}
use Rattle.std.proofs.lemmas.List.Edits.{length-insert, get_or-insert_below, get_or-insert_at, get_or-insert_above}
use Rattle.std.proofs.lemmas.List.Elements.{All-from_get_or, All-get_or, All-set}
use Rattle.std.proofs.lemmas.List.Sums.{sum_by-insert, sum_by-set, sum_by_push}
use Rattle.te_model.specs.declared.route.PathShare.{PathShare}
use Rattle.te_model.specs.Validity.{list_below, paths_ascend}
use Rattle.routing.specs.Merge.{no_path, links_at, HasLinks, weight_where, IsAdded, IsMerge}
use Rattle.routing.specs.Split.{total_weight}
use Rattle.te_model.proofs.ListOrder.{list_below-cases}
use Rattle.routing.proofs.Ascending.{ascending_at, ascending_from}

-- the place behind those that come before the links
pub record IsPlace (xs : List PathShare) (links : List ℕ) (i : ℕ) : Type 0 where
  pub within : i ≤ length xs
  pub before : (k : ℕ) → suc k ≡ i → list_below (links_at xs k) links ≡ true
  pub after : i < length xs → list_below (links_at xs i) links ≡ false

at_below : (xs : List PathShare) (i : ℕ) (y : PathShare) (k : ℕ) → i ≤ length xs → k < i → get_or (insert xs i y) k no_path ≡ get_or xs k no_path
at_below xs i y k le lt = get_or-insert_below xs i y no_path k lt le

at_above : (xs : List PathShare) (i : ℕ) (y : PathShare) (k : ℕ) → i ≤ length xs → i ≤ k → get_or (insert xs i y) (suc k) no_path ≡ get_or xs k no_path
at_above xs i y k le ge =
    let e : k + 1 ≡ suc k = omega arith in
    subst (λ n. get_or (insert xs i y) n no_path ≡ get_or xs k no_path) e (get_or-insert_above xs i y no_path k ge le)

-- what stands at a place of the list with one element more
inserted_cases : (xs : List PathShare) (i : ℕ) (y : PathShare) (k : ℕ) → i ≤ length xs → k < length (insert xs i y) →
    (get_or (insert xs i y) k no_path ≡ y) ⊎ ((j : ℕ) × (j < length xs) × (get_or (insert xs i y) k no_path ≡ get_or xs j no_path))
inserted_cases xs i y k le below = elim (cases_lt k i) [
  | inl lt ↦ inr (k, omega arith, at_below xs i y k le lt)
  | inr ge ↦ elim (cases_eq k i) [
    | inl e ↦ inl (ap (λ n. get_or (insert xs i y) n no_path) e ∙ get_or-insert_at xs i y no_path le)
    | inr apart ↦
        let j = k - 1 in
        let next : k ≡ suc j = omega (arith, ge, apart) in
        inr (j, omega (arith, length-insert xs i y le, ge, apart), ap (λ n. get_or (insert xs i y) n no_path) next ∙ at_above xs i y j le (omega (arith, ge, apart)))
  ]
]

above_from : (xs ys : List ℕ) → (xs ≡ ys → ⊥) → list_below xs ys ≡ false → list_below ys xs ≡ true
above_from xs ys apart is = elim (list_below-cases xs ys) [
  | inl e ↦ absurd (apart e)
  | inr other ↦ elim other [ inl lt ↦ cc | inr gt ↦ gt ]
]

ascending_insert : (xs : List PathShare) (i : ℕ) (y : PathShare) → paths_ascend xs ≡ true → IsPlace xs y.links i →
    (i < length xs → links_at xs i ≡ y.links → ⊥) → paths_ascend (insert xs i y) ≡ true
ascending_insert xs i y asc place apart = ascending_from (insert xs i y) go
  where
    ys : List PathShare
    ys = insert xs i y

    from : (a b : ℕ) (p q : List ℕ) → links_at (insert xs i y) a ≡ p → links_at (insert xs i y) b ≡ q → list_below p q ≡ true →
        list_below (links_at (insert xs i y) a) (links_at (insert xs i y) b) ≡ true
    from a b p q ea eb is = cc

    here : (k : ℕ) → k ≡ i → links_at (insert xs i y) k ≡ y.links
    here k e = ap (links_at (insert xs i y)) e ∙ ap (λ s. s.links) (get_or-insert_at xs i y no_path place.within)

    low : (k : ℕ) → k < i → links_at (insert xs i y) k ≡ links_at xs k
    low k lt = ap (λ s. s.links) (at_below xs i y k place.within lt)

    high : (k : ℕ) → i ≤ k → links_at (insert xs i y) (suc k) ≡ links_at xs k
    high k ge = ap (λ s. s.links) (at_above xs i y k place.within ge)

    go : (k : ℕ) → suc k < length (insert xs i y) → list_below (links_at (insert xs i y) k) (links_at (insert xs i y) (suc k)) ≡ true
    go k below =
        let count = length-insert xs i y place.within in
        elim (cases_lt (suc k) i) [
          | inl lt ↦ from k (suc k) (links_at xs k) (links_at xs (suc k)) (low k (omega arith)) (low (suc k) lt) (ascending_at xs k asc (omega (arith, lt, place.within)))
          | inr ge ↦ elim (cases_eq (suc k) i) [
            | inl e ↦ from k (suc k) (links_at xs k) y.links (low k (omega arith)) (here (suc k) e) (place.before k e)
            | inr after ↦ elim (cases_eq k i) [
              | inl e ↦
                  let inside : i < length xs = omega (arith, e, below, count) in
                  from k (suc k) y.links (links_at xs k) (here k e) (high k (omega (arith, e)))
                  (subst (λ n. list_below y.links (links_at xs n) ≡ true) (sym e) (above_from (links_at xs i) y.links (apart inside) (place.after inside)))
              | inr later ↦
                  let j = k - 1 in
                  let next : k ≡ suc j = omega (arith, ge, after, later) in
                  from k (suc k) (links_at xs j) (links_at xs (suc j)) (ap (links_at (insert xs i y)) next ∙ high j (omega (arith, ge, after, later)))
                  (high k (omega (arith, ge, after, later)) ∙ ap (links_at xs) next) (ascending_at xs j asc (omega (arith, below, count, next)))
            ]
          ]
        ]

pub added_new : (xs : List PathShare) (i : ℕ) (y : PathShare) → paths_ascend xs ≡ true → IsPlace xs y.links i →
    (i < length xs → links_at xs i ≡ y.links → ⊥) → IsAdded xs y (insert xs i y)
added_new xs i y asc place apart =
    let le = place.within in
    let count = length-insert xs i y le in
    record {
      ascending = ascending_insert xs i y asc place apart;
      kept = λ links (k, below, is). elim (cases_lt k i) [
        | inl lt ↦ (k, omega (arith, below, count), ap (λ s. s.links) (at_below xs i y k le lt) ∙ is)
        | inr ge ↦ (suc k, omega (arith, below, count), ap (λ s. s.links) (at_above xs i y k le ge) ∙ is)
      ];
      has = (i, omega (arith, count, le), ap (λ s. s.links) (get_or-insert_at xs i y no_path le));
      only = λ links (k, below, is). elim (inserted_cases xs i y k le below) [
        | inl e ↦ inr (sym is ∙ ap (λ s. s.links) e)
        | inr (j, inside, e) ↦ inl (j, inside, ap (λ s. s.links) (sym e) ∙ is)
      ];
      weights = λ test. sum_by-insert (λ s. if test s.links then s.weight else 0) xs i y;
      positive = λ all one. All-from_get_or (λ s. 1 ≤ s.weight) (insert xs i y) no_path (λ k below. elim (inserted_cases xs i y k le below) [
        | inl e ↦ subst (λ s. 1 ≤ s.weight) (sym e) one
        | inr (j, inside, e) ↦ subst (λ s. 1 ≤ s.weight) (sym e) (All-get_or (λ s. 1 ≤ s.weight) xs j no_path inside all)
      ]);
      few = omega (arith, count);
    }

more_if : (b : Bool) (x z v w : ℕ) → x + (if b then v else 0) ≡ z + (if b then v + w else 0) → x ≡ z + (if b then w else 0)
more_if true x z v w e = omega arith
more_if false x z v w e = omega arith

pub added_to : (xs : List PathShare) (i : ℕ) (y t : PathShare) → paths_ascend xs ≡ true → i < length xs → links_at xs i ≡ y.links →
    t.links ≡ y.links → t.weight ≡ (get_or xs i no_path).weight + y.weight → IsAdded xs y (set xs i t)
added_to xs i y t asc inside at links weight = record {
  ascending = ascending_from (set xs i t) (λ k below.
      from k (ascending_at xs k asc (omega (arith, below, length-set xs i t))));
  kept = λ l (k, below, is). (k, omega (arith, below, length-set xs i t), same k ∙ is);
  has = (i, omega (arith, inside, length-set xs i t), same i ∙ at);
  only = λ l (k, below, is). inl (k, omega (arith, below, length-set xs i t), sym (same k) ∙ is);
  weights = λ test. more test;
  positive = λ all one. All-set (λ s. 1 ≤ s.weight) xs i t (omega (arith, weight, one)) all;
  few = omega (arith, length-set xs i t);
}
  where
    same : (k : ℕ) → links_at (set xs i t) k ≡ links_at xs k
    same k = elim (cases_eq k i) [
      | inl e ↦
          ap (links_at (set xs i t)) e ∙ (ap (λ s. s.links) (get_or-set_same xs i t no_path inside) ∙ (links ∙ (sym at ∙ ap (links_at xs) (sym e))))
      | inr apart ↦ ap (λ s. s.links) (get_or-set_other xs i k t no_path apart)
    ]

    from : (k : ℕ) → list_below (links_at xs k) (links_at xs (suc k)) ≡ true → list_below (links_at (set xs i t) k) (links_at (set xs i t) (suc k)) ≡ true
    from k is = let one = same k in let two = same (suc k) in cc

    more : (test : List ℕ → Bool) → weight_where test (set xs i t) ≡ weight_where test xs + (if test y.links then y.weight else 0)
    more test =
        let f = λ (s : PathShare). if test s.links then s.weight else 0 in
        let sums = sum_by-set f xs i t no_path inside in
        let old : f (get_or xs i no_path) ≡ (if test y.links then (get_or xs i no_path).weight else 0) =
        ap (λ l. if test l then (get_or xs i no_path).weight else 0) at
        in
        let new : f t ≡ (if test y.links then (get_or xs i no_path).weight + y.weight else 0) =
        ap (λ l. if test l then t.weight else 0) links ∙ ap (λ w. if test y.links then w else 0) weight
        in
        more_if (test y.links) (weight_where test (set xs i t)) (weight_where test xs) (get_or xs i no_path).weight y.weight
        (ap (λ n. weight_where test (set xs i t) + n) (sym old) ∙ (sums ∙ ap (λ n. weight_where test xs + n) new))

has_push_cases : (xs : List PathShare) (y : PathShare) (links : List ℕ) → HasLinks (xs ++ y ∷ []) links → HasLinks xs links ⊎ (links ≡ y.links)
has_push_cases xs y links (k, below, at) = elim (cases_lt k (length xs)) [
  | inl lt ↦ inl (k, lt, ap (λ s. s.links) (sym (get_or_append_left xs (y ∷ []) no_path k lt)) ∙ at)
  | inr ge ↦ inr (sym at ∙ ap (λ s. s.links) (get_or_push xs y no_path k (omega (arith, ge, below, length-append xs (y ∷ [])))))
]

has_left : (xs : List PathShare) (y : PathShare) (links : List ℕ) → HasLinks xs links → HasLinks (xs ++ y ∷ []) links
has_left xs y links (k, below, at) =
    (k, omega (arith, below, length-append xs (y ∷ [])), ap (λ s. s.links) (get_or_append_left xs (y ∷ []) no_path k below) ∙ at)

has_pushed : (xs : List PathShare) (y : PathShare) → HasLinks (xs ++ y ∷ []) y.links
has_pushed xs y = (length xs, omega (arith, length-append xs (y ∷ [])), ap (λ s. s.links) (get_or_push xs y no_path (length xs) refl))

all_left : (P : PathShare → Type 0) (xs : List PathShare) (y : PathShare) → All P (xs ++ y ∷ []) → All P xs
all_left P xs y all = All-from_get_or P xs no_path (λ k below.
    subst P (get_or_append_left xs (y ∷ []) no_path k below)
    (All-get_or P (xs ++ y ∷ []) k no_path (omega (arith, below, length-append xs (y ∷ []))) all))

all_last : (P : PathShare → Type 0) (xs : List PathShare) (y : PathShare) → All P (xs ++ y ∷ []) → P y
all_last P xs y all =
    subst P (get_or_push xs y no_path (length xs) refl)
    (All-get_or P (xs ++ y ∷ []) (length xs) no_path (omega (arith, length-append xs (y ∷ []))) all)

-- one part more in a merge
pub merge_more : (parts merged new : List PathShare) (y : PathShare) → IsMerge parts merged → IsAdded merged y new → IsMerge (parts ++ y ∷ []) new
merge_more parts merged new y so add = record {
  ascending = add.ascending;
  kept = λ links has. elim (has_push_cases parts y links has) [
    | inl there ↦ add.kept links (so.kept links there)
    | inr e ↦ subst (HasLinks new) (sym e) add.has
  ];
  only = λ links has. elim (add.only links has) [
    | inl there ↦ has_left parts y links (so.only links there)
    | inr e ↦ subst (HasLinks (parts ++ y ∷ [])) (sym e) (has_pushed parts y)
  ];
  weights = λ test.
      omega (arith, add.weights test, so.weights test, sum_by_push (λ s. if test s.links then s.weight else 0) parts y);
  positive = λ all. add.positive (so.positive (all_left (λ s. 1 ≤ s.weight) parts y all)) (all_last (λ s. 1 ≤ s.weight) parts y all);
  few = omega (arith, so.few, add.few, length-append parts (y ∷ []));
}

-- the whole weight of a merge
pub merge_total : (parts merged : List PathShare) → IsMerge parts merged → total_weight merged ≡ total_weight parts
merge_total parts merged so = so.weights (λ l. true)
