-- Sorted nodes are in the order of their words and then of their numbers.
use Rattle.std.proofs.Common.{◌≡◌, inl, inr, ℕ, ◌<◌, false, cond, List, [], ◌∷◌, length, map, get_or, Ordering, AllPairs, All, arith, refl, ap, sym, ◌∙◌, subst, ◌==◌}
use Rattle.std.specs.declared.cmp.Ordering.TheVariants.{Less, Equal, Greater}
use Rattle.std.specs.Ordering.{nat_cmp, is_lt, ordering_then}
use Rattle.std.specs.List.{range_with_len}
use Rattle.std.specs.List.Sorted.{IsPermutation, IsSortedBy}
use Rattle.std.proofs.lemmas.Bool.{cases_lt, cases_order, false≢true, lt-ltb, le-ltb, eq-eqb}
use Rattle.std.proofs.lemmas.Cmp.{nat_cmp_total, on_total, then_total}
use Rattle.std.proofs.lemmas.List.{get_or-map, length-map}
use Rattle.std.proofs.lemmas.List.Elements.{All-get_or, All-map}
use Rattle.std.proofs.lemmas.List.Sorted.{IsPermutation-map, All-permutation, ranks_by, sorted_far}
use Rattle.te_model.specs.Counting.{IsUpTo}
use Rattle.racke_mix.specs.declared.drawing.DrawnNode.{DrawnNode}
use Rattle.racke_mix.specs.Draws.{IsOrderBy}

abbrev with_word : (ℕ → ℕ) → ℕ → DrawnNode
with_word word v = record { word = word v; node = v }

abbrev cmp_drawn : DrawnNode → DrawnNode → Ordering
cmp_drawn x y = ordering_then (nat_cmp x.word y.word) (nat_cmp x.node y.node)

-- what does not come before comes after, or is the same
not_before : (w v x y : ℕ) → is_lt (ordering_then (nat_cmp x w) (nat_cmp y v)) ≡ false → IsUpTo w v x y
not_before w v x y is = elim (cases_order w x) [
  | inl same ↦ elim (cases_lt y v) [
    | inl lt ↦
        let words : nat_cmp x w ≡ Equal =
        ap (λ b. cond b Less (cond (x == w) Equal Greater)) (le-ltb x w (omega arith)) ∙ ap (λ b. cond b Equal Greater) (eq-eqb x w (sym same))
        in
        let nodes : nat_cmp y v ≡ Less = ap (λ b. cond b Less (cond (y == v) Equal Greater)) (lt-ltb y v lt) in
        absurd (false≢true (sym is ∙ (ap (λ o. is_lt (ordering_then o (nat_cmp y v))) words ∙ ap is_lt nodes)))
    | inr ge ↦ inr (same, ge)
  ]
  | inr other ↦ elim other [
    | inl lt ↦ inl lt
    | inr gt ↦
        let words : nat_cmp x w ≡ Less = ap (λ b. cond b Less (cond (x == w) Equal Greater)) (lt-ltb x w gt) in
        absurd (false≢true (sym is ∙ ap (λ o. is_lt (ordering_then o (nat_cmp y v))) words))
  ]
]

nodes_of_drawn : (word : ℕ → ℕ) (vs : List ℕ) → map (λ (d : DrawnNode). d.node) (map (with_word word) vs) ≡ vs
nodes_of_drawn word [] = refl
nodes_of_drawn word (v ∷ vs) = ap (λ l. v ∷ l) (nodes_of_drawn word vs)

pub order_of_drawn : (word : ℕ → ℕ) (n : ℕ) (drawn sorted : List DrawnNode) (order : List ℕ) → drawn ≡ map (with_word word) (range_with_len 0 n) →
    IsPermutation drawn sorted → IsSortedBy (λ x y. is_lt (cmp_drawn x y)) sorted → order ≡ map (λ d. d.node) sorted → IsOrderBy word n order
order_of_drawn word n drawn sorted order are moved up is =
    let node : DrawnNode → ℕ = λ d. d.node in
    let own : DrawnNode → Type 0 = λ d. d.word ≡ word d.node in
    let owns : All own sorted =
    All-permutation own drawn sorted moved (subst (All own) (sym are) (All-map own (with_word word) (range_with_len 0 n) (λ k d below. refl)))
    in
    let none : DrawnNode = record { word = 0; node = 0 } in
    let rank = ranks_by (then_total (on_total (λ (d : DrawnNode). d.word) nat_cmp_total) (on_total (λ (d : DrawnNode). d.node) nat_cmp_total)) (λ (d : DrawnNode). d) in
    record {
      nodes = subst (IsPermutation (range_with_len 0 n)) (sym is)
          (subst (λ l. IsPermutation l (map node sorted)) (ap (map node) are ∙ nodes_of_drawn word (range_with_len 0 n)) (IsPermutation-map node drawn sorted moved));
      ascending = subst (AllPairs (λ u v. IsUpTo (word u) u (word v) v)) (sym is) (λ i j d before below.
          let inside : j < length sorted = omega (arith, below, length-map sorted node) in
          let first = get_or sorted i none in
          let second = get_or sorted j none in
          let placed : IsUpTo first.word first.node second.word second.node =
          not_before first.word first.node second.word second.node (sorted_far (λ x y. is_lt (cmp_drawn x y)) rank sorted up i j none (omega arith) inside)
          in
          let first_own = All-get_or own sorted i none (omega arith) owns in
          let second_own = All-get_or own sorted j none inside owns in
          let at_first : get_or (map node sorted) i d ≡ first.node = get_or-map node sorted i none d (omega arith) in
          let at_second : get_or (map node sorted) j d ≡ second.node = get_or-map node sorted j none d inside in
          subst (λ u. IsUpTo (word u) u (word (get_or (map node sorted) j d)) (get_or (map node sorted) j d)) (sym at_first)
          (subst (λ v. IsUpTo (word first.node) first.node (word v) v) (sym at_second)
          (subst (λ x. IsUpTo x first.node (word second.node) second.node) first_own
          (subst (λ x. IsUpTo first.word first.node x second.node) second_own placed))));
    }
