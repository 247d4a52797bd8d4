-- Ascending paths that all stand in a list are no more than its paths.
use Rattle.std.proofs.Common.{inl, inr, ◌≡◌, ℕ, zero, suc, ◌+◌, ◌-◌, ◌<◌, ◌≤◌, true, List, [], ◌∷◌, length, arith, refl, ap, sym, ◌∙◌, subst}
use Rattle.std.specs.Prelude.{remove}
use Rattle.std.proofs.lemmas.Bool.{and_parts, cases_eq, cases_lt}
use Rattle.std.proofs.lemmas.List.Edits.{length-remove, get_or-remove_below, get_or-remove_above}
use Rattle.te_model.specs.declared.route.PathShare.{PathShare}
use Rattle.te_model.specs.declared.route.PairRoutes.{PairRoutes}
use Rattle.te_model.specs.Validity.{list_below, paths_ascend}
use Rattle.te_model.proofs.ListOrder.{list_below-irrefl, list_below-trans}
use Rattle.routing.specs.Merge.{HasLinks, links_at, no_path}
use Rattle.routing.specs.Routes.{HasFewPaths}

-- the first of ascending paths comes before each other one
first_below : (x : PathShare) (xs : List PathShare) (k : ℕ) → paths_ascend (x ∷ xs) ≡ true → k < length xs → list_below x.links (links_at xs k) ≡ true
first_below x [] k asc below = absurd (omega arith)
first_below x (y ∷ ys) zero asc below = (and_parts (list_below x.links y.links) (paths_ascend (y ∷ ys)) asc).0
first_below x (y ∷ ys) (suc k) asc below =
    let both = and_parts (list_below x.links y.links) (paths_ascend (y ∷ ys)) asc in
    list_below-trans x.links y.links (links_at ys k) both.0 (first_below y ys k both.1 (omega arith))

pub tail_ascends : (x : PathShare) (xs : List PathShare) → paths_ascend (x ∷ xs) ≡ true → paths_ascend xs ≡ true
tail_ascends x [] asc = refl
tail_ascends x (y ∷ ys) asc = (and_parts (list_below x.links y.links) (paths_ascend (y ∷ ys)) asc).1

-- other links than those at a place stand in the list without it
has_without : (ys : List PathShare) (j : ℕ) (links : List ℕ) → j < length ys → HasLinks ys links → (links_at ys j ≡ links → ⊥) → HasLinks (remove ys j) links
has_without ys j links inside (i, below, at) apart = elim (cases_lt i j) [
  | inl lt ↦ (i, omega (arith, lt, inside, length-remove ys j inside), ap (λ (s : PathShare). s.links) (get_or-remove_below ys j no_path i lt inside) ∙ at)
  | inr ge ↦ elim (cases_eq i j) [
    | inl e ↦ absurd (apart (ap (links_at ys) (sym e) ∙ at))
    | inr other ↦
        let h = i - 1 in
        let next : h + 1 ≡ i = omega (arith, ge, other) in (
          h,
          omega (arith, below, length-remove ys j inside, ge, other),
          ap (λ (s : PathShare). s.links) (get_or-remove_above ys j no_path h (omega (arith, ge, other)) inside) ∙ (ap (links_at ys) next ∙ at),
        )
  ]
]

pub few_among : (xs ys : List PathShare) → paths_ascend xs ≡ true → ((links : List ℕ) → HasLinks xs links → HasLinks ys links) → length xs ≤ length ys
few_among [] ys asc among = omega arith
few_among (x ∷ xs) ys asc among =
    let (j, inside, at) = among x.links (0, omega arith, refl) in
    let rest = few_among xs (remove ys j) (tail_ascends x xs asc) (λ links has.
    let (k, below, is) = has in
    has_without ys j links inside (among links (suc k, omega (arith, below), is)) (λ same.
    list_below-irrefl x.links (subst (λ l. list_below x.links l ≡ true) (is ∙ (sym same ∙ at)) (first_below x xs k asc below))))
    in
    omega (arith, rest, length-remove ys j inside)

-- no more paths than a limit are no more than a greater one
pub few_more : (few many : ℕ) (routes : List PairRoutes) → few ≤ many → HasFewPaths few routes → HasFewPaths many routes
few_more few many routes within is = λ p d below. omega (arith, within, is p d below)
