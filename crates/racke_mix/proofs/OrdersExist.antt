-- For each word of a node there is an order of the nodes by their words and then by their numbers.
use Rattle.std.proofs.Common.{◌⊎◌, inl, inr, ◌≡◌, ℕ, suc, ◌≤◌, List, [], ◌∷◌, AllPairs, All, arith}
use Rattle.std.specs.List.{range_with_len}
use Rattle.std.specs.List.Sorted.{IsPermutation}
use Rattle.std.proofs.lemmas.Bool.{cases_lt, cases_order}
use Rattle.std.proofs.lemmas.List.Elements.{All-cons, All-from_get_or, All-nil, All-weaker}
use Rattle.std.proofs.lemmas.List.Kept.{AllPairs-cons}
use Rattle.std.proofs.lemmas.List.Sorted.{All-permutation, IsPermutation-cons, IsPermutation-middle, IsPermutation-refl, IsPermutation-trans}
use Rattle.te_model.specs.Counting.{IsUpTo}
use Rattle.racke_mix.specs.Draws.{IsOrderBy}

-- u comes up to v in the order of their words and then of their numbers
abbrev Ranks : (ℕ → ℕ) → ℕ → ℕ → Type 0
Ranks word u v = IsUpTo (word u) u (word v) v

ranks_total : (word : ℕ → ℕ) (u v : ℕ) → Ranks word u v ⊎ Ranks word v u
ranks_total word u v = elim (cases_order (word u) (word v)) [
  | inl same ↦ elim (cases_lt u v) [
    | inl lt ↦ let le : u ≤ v = omega arith in inl (inr (same, le))
    | inr ge ↦ let back : word v ≡ word u = cc in inr (inr (back, ge))
  ]
  | inr other ↦ elim other [
    | inl lt ↦ inl (inl lt)
    | inr gt ↦ inr (inl gt)
  ]
]

ranks_through : (word : ℕ → ℕ) (u v w : ℕ) → Ranks word u v → Ranks word v w → Ranks word u w
ranks_through word u v w (inl lt) (inl lt') = inl (omega arith)
ranks_through word u v w (inl lt) (inr (same, le)) = inl (omega arith)
ranks_through word u v w (inr (same, le)) (inl lt) = inl (omega arith)
ranks_through word u v w (inr (same, le)) (inr (same', le')) = inr (omega arith, omega arith)

from_first : (R : ℕ → ℕ → Type 0) (x : ℕ) (xs : List ℕ) → AllPairs R (x ∷ xs) → All (R x) xs
from_first R x xs up = All-from_get_or (R x) xs 0 (λ k below. up 0 (suc k) 0 (omega arith) (omega arith))

from_rest : (R : ℕ → ℕ → Type 0) (x : ℕ) (xs : List ℕ) → AllPairs R (x ∷ xs) → AllPairs R xs
from_rest R x xs up = λ i j d before below. up (suc i) (suc j) d (omega arith) (omega arith)

-- a node among nodes in order
placed : (word : ℕ → ℕ) (x : ℕ) (xs : List ℕ) → AllPairs (Ranks word) xs → (ys : List ℕ) × IsPermutation (x ∷ xs) ys × AllPairs (Ranks word) ys
placed word x [] up = (x ∷ [], IsPermutation-refl (x ∷ []), AllPairs-cons (Ranks word) x [] (All-nil (Ranks word x)) up)
placed word x (y ∷ ys) up = elim (ranks_total word x y) [
  | inl first ↦ (
    x ∷ y ∷ ys,
    IsPermutation-refl (x ∷ y ∷ ys),
    AllPairs-cons (Ranks word) x (y ∷ ys)
        (All-cons (Ranks word x) y ys first (All-weaker (Ranks word y) (Ranks word x) (λ z after. ranks_through word x y z first after) ys (from_first (Ranks word) y ys up))) up,
  )
  | inr later ↦
      let (zs, moved, rise) = placed word x ys (from_rest (Ranks word) y ys up) in (
        y ∷ zs,
        IsPermutation-trans (x ∷ y ∷ ys) (y ∷ x ∷ ys) (y ∷ zs) (IsPermutation-middle (x ∷ []) y ys) (IsPermutation-cons y (x ∷ ys) zs moved),
        AllPairs-cons (Ranks word) y zs (All-permutation (Ranks word y) (x ∷ ys) zs moved (All-cons (Ranks word y) x ys later (from_first (Ranks word) y ys up))) rise,
      )
]

all_placed : (word : ℕ → ℕ) (xs : List ℕ) → (ys : List ℕ) × IsPermutation xs ys × AllPairs (Ranks word) ys
all_placed word [] = ([], IsPermutation-refl [], λ i j d before below. absurd (omega arith))
all_placed word (x ∷ xs) =
    let (ys, moved, up) = all_placed word xs in
    let (zs, moved', up') = placed word x ys up in
    (zs, IsPermutation-trans (x ∷ xs) (x ∷ ys) zs (IsPermutation-cons x xs ys moved) moved', up')

pub order_exists : (word : ℕ → ℕ) (n : ℕ) → (order : List ℕ) × IsOrderBy word n order
order_exists word n =
    let (order, moved, up) = all_placed word (range_with_len 0 n) in
    (order, record { nodes = moved; ascending = up })
