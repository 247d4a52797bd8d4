-- Ascending numbers of links keep the order of paths, and a mapped split is a split.
use Rattle.std.proofs.Common.{◌≡◌, ℕ, ◌<◌, true, ◌&&◌, List, [], ◌∷◌, length, map, All, AllPairs, arith, refl, ap, ◌∙◌, inl, inr, ◌==◌, nat_lt, nat_le, slice_index}
use Rattle.std.specs.List.{list_all}
use Rattle.std.proofs.lemmas.Bool.{and_from, and_parts, eq-eqb, lt-ltb, or_left, or_right}
use Rattle.std.proofs.lemmas.List.Elements.{All-head, All-tail}
use Rattle.std.proofs.lemmas.List.Sums.{sum_by-cons}
use Rattle.te_model.specs.declared.route.PathShare.{PathShare}
use Rattle.te_model.specs.declared.route.PairRoutes.{PairRoutes}
use Rattle.te_model.specs.declared.units.TheConstants.{SHARE_UNIT}
use Rattle.te_model.specs.Validity.{list_below, paths_ascend}
use Rattle.te_model.proofs.ListOrder.{below_parts}
use Rattle.routing.specs.Split.{is_split, are_splits, total_weight}
use Rattle.series_simulation.specs.OriginalLinks.{original_path, original_pair, original_routes, HasLinksBelow, HavePathsBelow}

abbrev pub Ascends : List ℕ → Type 0
Ascends origin = AllPairs (λ g h. g < h) origin

abbrev IsBelow : ℕ → ℕ → Type 0
IsBelow n h = h < n

list_below-back : (origin xs ys : List ℕ) → Ascends origin → All (IsBelow (length origin)) xs → All (IsBelow (length origin)) ys →
    list_below xs ys ≡ true → list_below (map (slice_index origin) xs) (map (slice_index origin) ys) ≡ true
list_below-back origin [] [] up xs_in ys_in is = cc
list_below-back origin [] (y ∷ ys) up xs_in ys_in is = refl
list_below-back origin (x ∷ xs) [] up xs_in ys_in is = cc
list_below-back origin (x ∷ xs) (y ∷ ys) up xs_in ys_in is =
    let g = slice_index origin x in
    let h = slice_index origin y in
    let rest = list_below (map (slice_index origin) xs) (map (slice_index origin) ys) in
    elim (below_parts x y xs ys is) [
      | inl lt ↦ or_left (nat_lt g h) (g == h && rest) (lt-ltb g h (up x y 0 lt (All-head (IsBelow (length origin)) y ys ys_in)))
      | inr same ↦ or_right (nat_lt g h) (g == h && rest) (and_from (g == h) rest (eq-eqb g h (ap (slice_index origin) same.0))
          (list_below-back origin xs ys up (All-tail (IsBelow (length origin)) x xs xs_in) (All-tail (IsBelow (length origin)) y ys ys_in) same.1))
    ]

pub paths_ascend-back : (origin : List ℕ) (paths : List PathShare) → Ascends origin → All (HasLinksBelow (length origin)) paths →
    paths_ascend paths ≡ true → paths_ascend (map (original_path origin) paths) ≡ true
paths_ascend-back origin [] up inside is = refl
paths_ascend-back origin (p ∷ []) up inside is = refl
paths_ascend-back origin (p ∷ q ∷ ps) up inside is =
    let parts = and_parts (list_below p.links q.links) (paths_ascend (q ∷ ps)) is in
    let rest = All-tail (HasLinksBelow (length origin)) p (q ∷ ps) inside in
    and_from (list_below (map (slice_index origin) p.links) (map (slice_index origin) q.links)) (paths_ascend (map (original_path origin) (q ∷ ps)))
    (list_below-back origin p.links q.links up (All-head (HasLinksBelow (length origin)) p (q ∷ ps) inside)
    (All-head (HasLinksBelow (length origin)) q ps rest) parts.0)
    (paths_ascend-back origin (q ∷ ps) up rest parts.1)

pub total_weight-back : (origin : List ℕ) (paths : List PathShare) → total_weight (map (original_path origin) paths) ≡ total_weight paths
total_weight-back origin [] = refl
total_weight-back origin (p ∷ ps) =
    omega (
      arith,
      sum_by-cons (λ (s : PathShare). s.weight) (original_path origin p) (map (original_path origin) ps),
      sum_by-cons (λ (s : PathShare). s.weight) p ps,
      total_weight-back origin ps,
    )

positive-back : (origin : List ℕ) (paths : List PathShare) →
    list_all (λ (s : PathShare). nat_le 1 s.weight) (map (original_path origin) paths) ≡ list_all (λ (s : PathShare). nat_le 1 s.weight) paths
positive-back origin [] = refl
positive-back origin (p ∷ ps) = ap (λ b. nat_le 1 p.weight && b) (positive-back origin ps)

is_split-back : (origin : List ℕ) (r : PairRoutes) → Ascends origin → HavePathsBelow (length origin) r → is_split r ≡ true → is_split (original_pair origin r) ≡ true
is_split-back origin r up inside is =
    let new = map (original_path origin) r.paths in
    let positive = λ (ps : List PathShare). list_all (λ (s : PathShare). nat_le 1 s.weight) ps in
    let outer = and_parts (paths_ascend r.paths && positive r.paths) (total_weight r.paths == SHARE_UNIT) is in
    let inner = and_parts (paths_ascend r.paths) (positive r.paths) outer.0 in
    and_from (paths_ascend new && positive new) (total_weight new == SHARE_UNIT)
    (and_from (paths_ascend new) (positive new) (paths_ascend-back origin r.paths up inside inner.0) (positive-back origin r.paths ∙ inner.1))
    (ap (λ w. w == SHARE_UNIT) (total_weight-back origin r.paths) ∙ outer.1)

-- mapped splits are splits
pub are_splits-back : (origin : List ℕ) (routes : List PairRoutes) → Ascends origin → All (HavePathsBelow (length origin)) routes →
    are_splits routes ≡ true → are_splits (original_routes origin routes) ≡ true
are_splits-back origin [] up inside is = refl
are_splits-back origin (r ∷ rs) up inside is =
    let parts = and_parts (is_split r) (are_splits rs) is in
    and_from (is_split (original_pair origin r)) (are_splits (original_routes origin rs))
    (is_split-back origin r up (All-head (HavePathsBelow (length origin)) r rs inside) parts.0)
    (are_splits-back origin rs up (All-tail (HavePathsBelow (length origin)) r rs inside) parts.1)
