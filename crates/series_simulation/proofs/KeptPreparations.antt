-- What is kept of preparations: which is needed last, and what holds of those that stay.
use Rattle.std.proofs.Common.{◌≡◌, ◌∙◌, ℕ, ◌+◌, ◌<◌, ◌≤◌, Bool, List, [], ◌∷◌, true, false, get_or, take, drop, ◌++◌, length, length-append, arith, ap, sym, subst}
use Rattle.std.specs.List.{IsFirstMaxByKey, items_where_true}
use Rattle.std.specs.List.Retain.{IsFiltered}
use Rattle.std.specs.Prelude.{All, Contains}
use Rattle.std.proofs.lemmas.List.{get_or_default}
use Rattle.std.proofs.lemmas.List.Elements.{All-append, All-cons, All-contains, All-contains_itself, All-drop, All-head, All-nil, All-tail, All-take, All-weaker}
use Rattle.std.proofs.lemmas.List.Sums.{best_keeps, best_none, best_takes}
use Rattle.te_model.specs.declared.network.Network.{Network}
use Rattle.te_model.specs.declared.route.Pair.{Pair}
use Rattle.series_simulation.specs.declared.kept_preparations.TheConstants.{KEPT_SETS}
use Rattle.series_simulation.specs.declared.survivor_preparation.SurvivorPreparation.{SurvivorPreparation}
use Rattle.series_simulation.specs.SurvivorPreparation.{AreKept, IsKept, IsPreparedWithout, next_use}

-- of those before a place, this one is needed last, at this step
pub record IsNeededLast {P : Type 0} (later : List (List Bool)) (kept : List (SurvivorPreparation P)) (place last greatest : ℕ) : Type 0 where
  pub is_last : IsFirstMaxByKey (λ (made : SurvivorPreparation P). next_use later made.failed) kept place last
  pub greatest_is : (d : SurvivorPreparation P) → greatest ≡ next_use later (get_or kept last d).failed

module _ {P : Type 0} (later : List (List Bool)) (kept : List (SurvivorPreparation P)) where
  -- the step that was read of one of them is that of the one at its place
  pub need_at : (made : SurvivorPreparation P) (marks : List Bool) (next place : ℕ) → place < length kept → marks ≡ (get_or kept place made).failed →
      next ≡ next_use later marks → (d : SurvivorPreparation P) → next ≡ next_use later (get_or kept place d).failed
  need_at made marks next place inside is said d =
      said ∙ ap (next_use later) is ∙ ap (λ (m : SurvivorPreparation P). next_use later m.failed) (get_or_default kept place made d inside)

  pub needed_first : (next : ℕ) → ((d : SurvivorPreparation P) → next ≡ next_use later (get_or kept 0 d).failed) → IsNeededLast later kept 1 0 next
  needed_first next here = record {
    is_last = best_none (λ (m : SurvivorPreparation P). next_use later m.failed) kept;
    greatest_is = here;
  }

  pub needed_later : (next place last greatest : ℕ) → ((d : SurvivorPreparation P) → next ≡ next_use later (get_or kept place d).failed) →
      IsNeededLast later kept place last greatest → greatest < next → IsNeededLast later kept (place + 1) place next
  needed_later next place last greatest here so_far more = record {
    is_last = best_takes (λ (m : SurvivorPreparation P). next_use later m.failed) kept place last so_far.is_last
        (λ d. omega (arith, here d, so_far.greatest_is d, more));
    greatest_is = here;
  }

  pub needed_before : (next place last greatest : ℕ) → ((d : SurvivorPreparation P) → next ≡ next_use later (get_or kept place d).failed) →
      IsNeededLast later kept place last greatest → next ≤ greatest → IsNeededLast later kept (place + 1) last greatest
  needed_before next place last greatest here so_far less = record {
    is_last = best_keeps (λ (m : SurvivorPreparation P). next_use later m.failed) kept place last so_far.is_last
        (λ d. omega (arith, here d, so_far.greatest_is d, less));
    greatest_is = so_far.greatest_is;
  }

  pub needed_of_all : (place last greatest : ℕ) → place ≡ length kept → IsNeededLast later kept place last greatest →
      IsFirstMaxByKey (λ (m : SurvivorPreparation P). next_use later m.failed) kept (length kept) last
  needed_of_all place last greatest all so_far =
      subst (λ n. IsFirstMaxByKey (λ (m : SurvivorPreparation P). next_use later m.failed) kept n last) all so_far.is_last

-- marks that are equal to those that were read at a place are those of what stands there
pub marks_at : {P : Type 0} (kept : List (SurvivorPreparation P)) (made : SurvivorPreparation P) (place : ℕ) (marks failed : List Bool) → place < length kept →
    marks ≡ (get_or kept place made).failed → marks ≡ failed → (d : SurvivorPreparation P) → (get_or kept place d).failed ≡ failed
marks_at {P} kept made place marks failed inside is same d =
    ap (λ (m : SurvivorPreparation P). m.failed) (get_or_default kept place d made inside) ∙ sym is ∙ same

-- what holds of all holds of those that are picked
picked : {X : Type 0} (P : X → Type 0) (bs : List Bool) (xs : List X) → All P xs → All P (items_where_true bs xs)
picked P [] xs all = All-nil P
picked P (b ∷ bs) [] all = All-nil P
picked P (true ∷ bs) (x ∷ xs) all = All-cons P x (items_where_true bs xs) (All-head P x xs all) (picked P bs xs (All-tail P x xs all))
picked P (false ∷ bs) (x ∷ xs) all = picked P bs xs (All-tail P x xs all)

-- those that stay stood in the list
pub some_stay : {X F : Type 0} (R : F → X → Bool → F → Type 0) (f : F) (xs left : List X) → IsFiltered R f xs left → All (Contains xs) left
some_stay R f xs left (bs, g, count, turns, is) = subst (All (Contains xs)) (sym is) (picked (Contains xs) bs xs (All-contains_itself xs))

-- nor is it otherwise where one of them goes
pub one_goes : {X : Type 0} (P : X → Type 0) (xs left : List X) (i : ℕ) → left ≡ take i xs ++ drop (i + 1) xs → All P xs → All P left
one_goes P xs left i is all = subst (All P) (sym is) (All-append P (take i xs) (drop (i + 1) xs) (All-take P i xs all) (All-drop P (i + 1) xs all))

module _ {Plan : Type 0} (is_plan : Network → List Pair → Plan → Type 0) (net : Network) (pairs : List Pair) where
  -- some of what is kept, and what was prepared last
  pub added : (before kept : List (SurvivorPreparation Plan)) (made : SurvivorPreparation Plan) (failed : List Bool) → AreKept is_plan net pairs before →
      All (Contains before) kept → length kept < KEPT_SETS → IsPreparedWithout is_plan net failed pairs made → AreKept is_plan net pairs (kept ++ made ∷ [])
  added before kept made failed are some few is = record {
    few = omega (arith, few, length-append kept (made ∷ []));
    each = All-append (IsKept is_plan net pairs) kept (made ∷ [])
        (All-weaker (Contains before) (IsKept is_plan net pairs) (λ x stood. All-contains (IsKept is_plan net pairs) before x are.each stood) kept some)
        (All-cons (IsKept is_plan net pairs) made []
        (subst (λ (marks : List Bool). IsPreparedWithout is_plan net marks pairs made) (sym is.marks) is) (All-nil (IsKept is_plan net pairs)));
  }

  pub none_kept : AreKept is_plan net pairs []
  none_kept = record { few = omega arith; each = All-nil (IsKept is_plan net pairs) }
