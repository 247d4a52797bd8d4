-- The first links of least walks.
use Rattle.std.proofs.Common.{inl, inr, ◌≡◌, ℕ, ◌+◌, ◌<◌, Bool, true, false, not, ◌&&◌, List, Option, Some, None, set, arith, refl, sym, ◌∙◌, subst, slice_index, ◌==◌}
use Rattle.std.specs.Prelude.{is_some}
use Rattle.std.proofs.lemmas.Bool.{cases_eq, cases_lt, and_from, and_left, and_parts, and_right, eq-eqb, ne_eqb}
use Rattle.std.proofs.lemmas.List.{length-set, get_or-set_same, get_or-set_other}
use Rattle.te_model.specs.declared.network.Network.{Network}
use Rattle.te_model.specs.Network.{node_count, link_count, tail_of, head_of}
use Rattle.shortest_path.specs.Graph.{distance_at}
use Rattle.shortest_path.specs.Least.{AreFirstLinks, IsFirstTightBelow, first_at, is_sum, is_tight}
use Rattle.shortest_path.specs.Links.{is_open}

-- one link more that is not the first
one_more : (net : Network) (lengths : List ℕ) (marks : List Bool) (sums : List (Option ℕ)) (h v : ℕ) (o : Option ℕ) → IsFirstTightBelow net lengths marks sums h v o →
    (o ≡ None → is_tight net lengths marks sums v h ≡ false) → IsFirstTightBelow net lengths marks sums (h + 1) v o
one_more net lengths marks sums h v None so slack = λ k below. elim (cases_lt k h) [
  | inl lt ↦ so k lt
  | inr ge ↦ let e : k ≡ h = omega arith in subst (λ j. is_tight net lengths marks sums v j ≡ false) (sym e) (slack refl)
]
one_more net lengths marks sums h v (Some g) so slack = (omega (arith, so.0), so.1, so.2)

slack_other : (net : Network) (lengths : List ℕ) (marks : List Bool) (sums : List (Option ℕ)) (h v : ℕ) → (v ≡ tail_of net h → ⊥) →
    is_tight net lengths marks sums v h ≡ false
slack_other net lengths marks sums h v ne =
    and_left (is_open marks h && tail_of net h == v) (is_sum (distance_at sums v) (distance_at sums (head_of net h)) (slice_index lengths h))
    (and_right (is_open marks h) (tail_of net h == v) (ne_eqb (tail_of net h) v (λ e. ne (sym e))))

slack_of : (o t s : Bool) → (o && s) ≡ false → (o && t && s) ≡ false
slack_of true true s is = is
slack_of true false s is = refl
slack_of false t s is = refl

pub firsts_skip : (net : Network) (lengths : List ℕ) (marks : List Bool) (sums : List (Option ℕ)) (h : ℕ) (firsts : List (Option ℕ)) → AreFirstLinks net lengths marks sums h firsts →
    (first_at firsts (tail_of net h) ≡ None →
    (is_open marks h && is_sum (distance_at sums (tail_of net h)) (distance_at sums (head_of net h)) (slice_index lengths h)) ≡ false) →
    AreFirstLinks net lengths marks sums (h + 1) firsts
firsts_skip net lengths marks sums h firsts so slack = record {
  count = so.count;
  each = λ v below. one_more net lengths marks sums h v (first_at firsts v) (so.each v below) (λ none. elim (cases_eq v (tail_of net h)) [
    | inl e ↦
        slack_of (is_open marks h) (tail_of net h == v) (is_sum (distance_at sums v) (distance_at sums (head_of net h)) (slice_index lengths h))
        (subst (λ u. (is_open marks h && is_sum (distance_at sums u) (distance_at sums (head_of net h)) (slice_index lengths h)) ≡ false) (sym e)
        (slack (subst (λ u. first_at firsts u ≡ None) e none)))
    | inr ne ↦ slack_other net lengths marks sums h v ne
  ]);
}

pub firsts_more : (net : Network) (lengths : List ℕ) (marks : List Bool) (sums : List (Option ℕ)) (h : ℕ) (firsts : List (Option ℕ)) → AreFirstLinks net lengths marks sums h firsts →
    h < link_count net → tail_of net h < node_count net → first_at firsts (tail_of net h) ≡ None →
    (is_open marks h && is_sum (distance_at sums (tail_of net h)) (distance_at sums (head_of net h)) (slice_index lengths h)) ≡ true →
    AreFirstLinks net lengths marks sums (h + 1) (set firsts (tail_of net h) (Some h))
firsts_more net lengths marks sums h firsts so inside tail_in none tight_h =
    let t = tail_of net h in
    let both = and_parts (is_open marks h) (is_sum (distance_at sums t) (distance_at sums (head_of net h)) (slice_index lengths h)) tight_h in
    record {
      count = length-set firsts t (Some h) ∙ so.count;
      each = λ v below. elim (cases_eq v t) [
        | inl e ↦
            let same : first_at (set firsts t (Some h)) t ≡ Some h = get_or-set_same firsts t (Some h) None (omega (arith, so.count, tail_in)) in
            let before = subst (λ o. IsFirstTightBelow net lengths marks sums h t o) none (so.each t tail_in) in
            let tight : is_tight net lengths marks sums t h ≡ true =
            and_from (is_open marks h && tail_of net h == t) (is_sum (distance_at sums t) (distance_at sums (head_of net h)) (slice_index lengths h))
            (and_from (is_open marks h) (tail_of net h == t) both.0 (eq-eqb (tail_of net h) t refl)) both.1
            in
            let here : IsFirstTightBelow net lengths marks sums (h + 1) t (Some h) = (omega arith, tight, before) in
            subst (λ u. IsFirstTightBelow net lengths marks sums (h + 1) u (first_at (set firsts t (Some h)) u)) (sym e)
            (subst (λ o. IsFirstTightBelow net lengths marks sums (h + 1) t o) (sym same) here)
        | inr ne ↦
            let other : first_at (set firsts t (Some h)) v ≡ first_at firsts v = get_or-set_other firsts t v (Some h) None ne in
            subst (λ o. IsFirstTightBelow net lengths marks sums (h + 1) v o) (sym other)
            (one_more net lengths marks sums h v (first_at firsts v) (so.each v below) (λ e. slack_other net lengths marks sums h v ne))
      ];
    }

pub none_read : (o : Option ℕ) (b : Bool) → is_some o ≡ not b → b ≡ true → o ≡ None
none_read None b is on = refl
none_read (Some x) b is on = cc

pub some_read : (o : Option ℕ) (b : Bool) → is_some o ≡ not b → b ≡ false → o ≡ None → ⊥
some_read None b is off none = cc
some_read (Some x) b is off none = cc
