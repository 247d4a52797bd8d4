-- What stays of ascending paths with positive weights.
use Rattle.std.proofs.Common.{inl, inr, ◌≡◌, ℕ, zero, suc, ◌+◌, ◌-◌, ◌<◌, ◌≤◌, Bool, true, false, List, [], ◌∷◌, ◌++◌, length, take, get_or, arith, refl, ap, sym, ◌∙◌, subst, if◌then◌else◌, add-one}
use Rattle.std.proofs.lemmas.Bool.{cases_lt}
use Rattle.std.proofs.lemmas.List.{length-append, get_or_append_left, get_or_push}
use Rattle.std.proofs.lemmas.List.Sums.{sum_by_push, sum_by_more}
use Rattle.te_model.specs.declared.route.PathShare.{PathShare}
use Rattle.te_model.specs.Counting.{count_below}
use Rattle.te_model.specs.Validity.{list_below, paths_ascend}
use Rattle.te_model.proofs.ListOrder.{list_below-trans}
use Rattle.routing.specs.Merge.{links_at, no_path, path_at}
use Rattle.routing.specs.Split.{total_weight}
use Rattle.routing.proofs.Ascending.{ascending_at, ascending_from}
use Rattle.path_budget.specs.Budget.{is_heavy, heavy_below}

-- one path more behind the last
ascending_push : (xs : List PathShare) (y : PathShare) → paths_ascend xs ≡ true →
    ((k : ℕ) → k < length xs → list_below (links_at xs k) y.links ≡ true) → paths_ascend (xs ++ y ∷ []) ≡ true
ascending_push xs y asc below = ascending_from (xs ++ y ∷ []) (λ k inside.
    let left : (j : ℕ) → j < length xs → links_at (xs ++ y ∷ []) j ≡ links_at xs j =
    λ j lt. ap (λ (s : PathShare). s.links) (get_or_append_left xs (y ∷ []) no_path j lt)
    in
    elim (cases_lt (suc k) (length xs)) [
      | inl lt ↦ pair k (links_at xs k) (links_at xs (suc k)) (left k (omega arith)) (left (suc k) lt) (ascending_at xs k asc lt)
      | inr ge ↦
          let last : length xs ≡ suc k = omega (arith, ge, inside, length-append xs (y ∷ [])) in
          pair k (links_at xs k) y.links (left k (omega (arith, last))) (ap (λ (s : PathShare). s.links) (get_or_push xs y no_path (suc k) last)) (below k (omega (arith, last)))
    ])
  where
    pair : (k : ℕ) (p q : List ℕ) → links_at (xs ++ y ∷ []) k ≡ p → links_at (xs ++ y ∷ []) (suc k) ≡ q → list_below p q ≡ true →
        list_below (links_at (xs ++ y ∷ []) k) (links_at (xs ++ y ∷ []) (suc k)) ≡ true
    pair k p q ep eq is = cc

-- ascending paths ascend at any two places
pub ascending_apart : (xs : List PathShare) (i n : ℕ) → paths_ascend xs ≡ true → i + suc n < length xs →
    list_below (links_at xs i) (links_at xs (i + suc n)) ≡ true
ascending_apart xs i zero asc below =
    let e : i + 1 ≡ suc i = omega arith in
    subst (λ j. list_below (links_at xs i) (links_at xs j) ≡ true) (sym e) (ascending_at xs i asc (omega arith))
ascending_apart xs i (suc n) asc below =
    let e : i + suc (suc n) ≡ suc (i + suc n) = omega arith in
    list_below-trans (links_at xs i) (links_at xs (i + suc n)) (links_at xs (i + suc (suc n))) (ascending_apart xs i n asc (omega arith))
    (subst (λ j. list_below (links_at xs (i + suc n)) (links_at xs j) ≡ true) (sym e) (ascending_at xs (i + suc n) asc (omega arith)))

-- what holds of the heavy ones among the first n
pub record HeavySoFar (budget : ℕ) (xs : List PathShare) (n : ℕ) (kept : List PathShare) : Type 0 where
  pub ascending : paths_ascend kept ≡ true
  pub from : (k : ℕ) → k < length kept → (i : ℕ) × (i < n) × (get_or kept k no_path ≡ path_at xs i)
  pub weight : total_weight kept ≤ total_weight (take n xs)
  pub count : length kept ≡ count_below n (is_heavy budget xs)

pub heavy_so_far : (budget : ℕ) (xs : List PathShare) (n : ℕ) → paths_ascend xs ≡ true → n ≤ length xs → HeavySoFar budget xs n (heavy_below budget xs n)
heavy_so_far budget xs zero asc within = record {
  ascending = refl;
  from = λ k below. absurd (omega arith);
  weight = omega arith;
  count = refl;
}
heavy_so_far budget xs (suc n) asc within =
    let far = heavy_so_far budget xs n asc (omega arith) in
    go far (is_heavy budget xs n) refl
  where
    kept : List PathShare
    kept = heavy_below budget xs n

    y : PathShare
    y = path_at xs n

    more : total_weight (take (suc n) xs) ≡ total_weight (take n xs) + (path_at xs n).weight
    more = subst (λ m. total_weight (take m xs) ≡ total_weight (take n xs) + (path_at xs n).weight) (add-one n)
        (sum_by_more (λ (s : PathShare). s.weight) xs n no_path (omega arith))

    go : HeavySoFar budget xs n (heavy_below budget xs n) → (b : Bool) → is_heavy budget xs n ≡ b →
        HeavySoFar budget xs (suc n) (if b then heavy_below budget xs n ++ path_at xs n ∷ [] else heavy_below budget xs n)
    go far true is = record {
      ascending = ascending_push (heavy_below budget xs n) (path_at xs n) far.ascending (λ k below.
          let (i, before, at) = far.from k below in
          let d : ℕ = n - suc i in
          let place : i + suc d ≡ n = omega (arith, before) in
          let apart = ascending_apart xs i d asc (omega (arith, place, within)) in
          let there : list_below (links_at xs i) (links_at xs n) ≡ true = subst (λ j. list_below (links_at xs i) (links_at xs j) ≡ true) place apart in
          subst (λ (l : List ℕ). list_below l (links_at xs n) ≡ true) (sym (ap (λ (s : PathShare). s.links) at)) there);
      from = λ k below. elim (cases_lt k (length (heavy_below budget xs n))) [
        | inl lt ↦
            let (i, before, at) = far.from k lt in
            (i, omega arith, get_or_append_left (heavy_below budget xs n) (path_at xs n ∷ []) no_path k lt ∙ at)
        | inr ge ↦ (n, omega arith, get_or_push (heavy_below budget xs n) (path_at xs n) no_path k (omega (arith, ge, below, length-append (heavy_below budget xs n) (path_at xs n ∷ []))))
      ];
      weight = omega (arith, far.weight, more, sum_by_push (λ (s : PathShare). s.weight) (heavy_below budget xs n) (path_at xs n));
      count =
          length-append (heavy_below budget xs n) (path_at xs n ∷ [])
          ∙ (ap (λ m. m + 1) far.count ∙ sym (ap (λ b. count_below n (is_heavy budget xs) + (if b then 1 else 0)) is));
    }
    go far false is = record {
      ascending = far.ascending;
      from = λ k below. let (i, before, at) = far.from k below in (i, omega arith, at);
      weight = omega (arith, far.weight, more);
      count = omega (arith, far.count, ap (λ b. count_below n (is_heavy budget xs) + (if b then 1 else 0)) is);
    }
