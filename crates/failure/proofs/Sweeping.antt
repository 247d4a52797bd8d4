-- The ends of outages, outage by outage and step by step.
use Rattle.std.proofs.Common.{◌≡◌, ℕ, ◌+◌, ◌<◌, Bool, true, false, ◌&&◌, ◌||◌, List, [], ◌∷◌, length, map, take, max, get_or, replicate, arith, refl, ap, sym, ◌∙◌, ◌==◌, inl, inr}
use Rattle.std.specs.Prelude.{nat_le, nat_lt}
use Rattle.std.specs.List.{list_any, range_with_len}
use Rattle.std.proofs.Math.ListN.{set}
use Rattle.std.proofs.lemmas.Bool.{cases_eq, eq-eqb, ne_eqb}
use Rattle.std.proofs.lemmas.Bool.Decides.{nat_tests}
use Rattle.std.proofs.lemmas.List.FromFn.{fill_by_all, get_or-map-range_with_len, length-map-range_with_len}
use Rattle.std.proofs.lemmas.List.{get_or_read, get_or-replicate, get_or-set_other, get_or-set_same, length-replicate, length-set}
use Rattle.std.proofs.lemmas.List.Folds.{list_any_more}
use Rattle.failure.specs.declared.outage.Outage.{Outage}
use Rattle.failure.specs.Failed.{is_during}
use Rattle.failure.specs.Series.{reaches, AreEnds, AreEndsByStep}

abbrev pub no_outage : Outage
no_outage = record { from = 0; to = 0; link = 0 }

or_mixed : (a b c d : Bool) → ((a || b) || (c || d)) ≡ ((a || c) || (b || d))
or_mixed true b c d = refl
or_mixed false true true d = refl
or_mixed false true false d = refl
or_mixed false false true d = refl
or_mixed false false false d = refl

-- either test of some element
any_or : (p q r : Outage → Bool) (os : List Outage) → ((o : Outage) → r o ≡ (p o || q o)) → list_any r os ≡ (list_any p os || list_any q os)
any_or p q r [] each = refl
any_or p q r (o ∷ os) each =
    ap (λ b. b || list_any r os) (each o) ∙ (ap (λ b. (p o || q o) || b) (any_or p q r os each) ∙ or_mixed (p o) (q o) (list_any p os) (list_any q os))

any_same : (p q : Outage → Bool) (os : List Outage) → ((o : Outage) → p o ≡ q o) → list_any p os ≡ list_any q os
any_same p q [] each = refl
any_same p q (o ∷ os) each = ap (λ b. b || list_any p os) (each o) ∙ ap (λ b. q o || b) (any_same p q os each)

lt_max : (x a b : ℕ) → nat_lt x (max a b) ≡ (nat_lt x a || nat_lt x b)
lt_max x a b = grind (arith, nat_tests)

lt_more : (f t : ℕ) → nat_lt f (t + 1) ≡ (nat_lt f t || f == t)
lt_more f t = grind (arith, nat_tests)

lt_le : (f t : ℕ) → nat_lt f (t + 1) ≡ nat_le f t
lt_le f t = grind (arith, nat_tests)

spread : (l a b c : Bool) → (l && ((a || b) && c)) ≡ ((l && (a && c)) || (l && (b && c)))
spread true true true true = refl
spread true true true false = refl
spread true true false true = refl
spread true true false false = refl
spread true false b c = refl
spread false a b c = refl

grouped : (l a c : Bool) → (l && (a && c)) ≡ ((l && a) && c)
grouped true a c = refl
grouped false a c = refl

-- one step more
pub ends_more : (links t : ℕ) (os : List Outage) (latest row new : List ℕ) → AreEnds links (λ from. nat_lt from t) os latest → AreEnds links (λ from. from == t) os row →
    length new ≡ length latest → ((e : ℕ) → e < length latest → get_or new e 0 ≡ max (get_or latest e 0) (get_or row e 0)) →
    AreEnds links (λ from. nat_lt from (t + 1)) os new
ends_more links t os latest row new before now kept is = record {
  count = kept ∙ before.count;
  each = λ e x below.
      ap (nat_lt x) (is e (omega (arith, below, before.count)))
      ∙ (lt_max x (get_or latest e 0) (get_or row e 0)
      ∙ (ap (λ b. b || nat_lt x (get_or row e 0)) (before.each e x below)
      ∙ (ap (λ b. list_any (reaches (λ from. nat_lt from t) e x) os || b) (now.each e x below)
      ∙ sym (any_or (reaches (λ from. nat_lt from t) e x) (reaches (λ from. from == t) e x) (reaches (λ from. nat_lt from (t + 1)) e x) os (λ o.
      ap (λ b. o.link == e && (b && nat_le x o.to)) (lt_more o.from t) ∙ spread (o.link == e) (nat_lt o.from t) (o.from == t) (nat_le x o.to))))));
}

-- what has failed in the step
pub ends_mark : (links t : ℕ) (os : List Outage) (latest : List ℕ) → AreEnds links (λ from. nat_lt from (t + 1)) os latest →
    (e : ℕ) → e < links → nat_lt t (get_or latest e 0) ≡ list_any (is_during t e) os
ends_mark links t os latest are e below =
    are.each e t below ∙ any_same (reaches (λ from. nat_lt from (t + 1)) e t) (is_during t e) os (λ o.
    ap (λ b. o.link == e && (b && nat_le t o.to)) (lt_le o.from t) ∙ grouped (o.link == e) (nat_le o.from t) (nat_le t o.to))

zero_any : (begins : ℕ → Bool) (e x : ℕ) → nat_lt x 0 ≡ false
zero_any begins e x = grind (arith, nat_tests)

none_before : (os : List Outage) (e x : ℕ) → list_any (reaches (λ from. nat_lt from 0) e x) os ≡ false
none_before [] e x = refl
none_before (o ∷ os) e x = ap (λ b. b || list_any (reaches (λ from. nat_lt from 0) e x) os) (out (o.link == e) (nat_le x o.to)) ∙ none_before os e x
  where
    low : nat_lt o.from 0 ≡ false
    low = grind (arith, nat_tests)

    out : (l c : Bool) → (l && (nat_lt o.from 0 && c)) ≡ false
    out true c = ap (λ b. b && c) low
    out false c = refl

-- before the first step
pub ends_begin : (links : ℕ) (os : List Outage) (ends : List ℕ) → ends ≡ replicate links 0 → AreEnds links (λ from. nat_lt from 0) os ends
ends_begin links os ends are = record {
  count = ap (λ (l : List ℕ). length l) are ∙ length-replicate {A = ℕ} links 0;
  each = λ e x below.
      ap (nat_lt x) (ap (λ (l : List ℕ). get_or l e 0) are ∙ get_or-replicate {A = ℕ} links e 0 0 below)
      ∙ (zero_any (λ f. true) e x ∙ sym (none_before os e x));
}

or_none : (b : Bool) → (b || false) ≡ b
or_none true = refl
or_none false = refl

-- one outage more, which begins in another step
pub ends_passed : (links : ℕ) (os : List Outage) (i step : ℕ) (was row : List ℕ) → i < length os → ((get_or os i no_outage).from ≡ step → ⊥) → row ≡ was →
    AreEnds links (λ from. from == step) (take i os) was → AreEnds links (λ from. from == step) (take (i + 1) os) row
ends_passed links os i step was row below other is before = record {
  count = ap (λ (l : List ℕ). length l) is ∙ before.count;
  each = λ e x lt.
      ap (λ (l : List ℕ). nat_lt x (get_or l e 0)) is
      ∙ (before.each e x lt
      ∙ (sym (or_none (list_any (reaches (λ from. from == step) e x) (take i os)))
      ∙ (ap (λ b. list_any (reaches (λ from. from == step) e x) (take i os) || b) (sym (out ((get_or os i no_outage).link == e) (nat_le x (get_or os i no_outage).to)))
      ∙ sym (list_any_more (reaches (λ from. from == step) e x) os i no_outage below))));
}
  where
    out : (l c : Bool) → (l && (((get_or os i no_outage).from == step) && c)) ≡ false
    out true c = ap (λ b. b && c) (ne_eqb (get_or os i no_outage).from step other)
    out false c = refl

-- one outage more, among the ends of its first step
pub ends_entered : (links : ℕ) (os : List Outage) (table : List (List ℕ)) (row : List ℕ) (i : ℕ) → i < length os → (get_or os i no_outage).from < length table →
    AreEndsByStep links (take i os) table → length row ≡ length (get_or table (get_or os i no_outage).from []) →
    ((e x : ℕ) → e < length (get_or table (get_or os i no_outage).from []) →
    nat_lt x (get_or row e 0) ≡ (nat_lt x (get_or (get_or table (get_or os i no_outage).from []) e 0) || ((get_or os i no_outage).link == e && nat_le x (get_or os i no_outage).to))) →
    AreEndsByStep links (take (i + 1) os) (set table (get_or os i no_outage).from row)
ends_entered links os table row i below inside before kept is step within =
    let o = get_or os i no_outage in
    let was = before o.from inside in
    elim (cases_eq step o.from) [
      | inl same ↦
          let here : get_or (set table o.from row) step [] ≡ row = ap (λ n. get_or (set table o.from row) n []) same ∙ get_or-set_same table o.from row [] inside in
          let own : (o.from == step) ≡ true = eq-eqb o.from step (sym same) in
          record {
            count = ap (λ (l : List ℕ). length l) here ∙ (kept ∙ was.count);
            each = λ e x lt.
                ap (λ (l : List ℕ). nat_lt x (get_or l e 0)) here
                ∙ (is e x (omega (arith, lt, was.count))
                ∙ (ap (λ b. b || (o.link == e && nat_le x o.to)) (was.each e x lt)
                ∙ (ap (λ n. list_any (reaches (λ from. from == n) e x) (take i os) || (o.link == e && nat_le x o.to)) (sym same)
                ∙ (ap (λ b. list_any (reaches (λ from. from == step) e x) (take i os) || (o.link == e && (b && nat_le x o.to))) (sym own)
                ∙ sym (list_any_more (reaches (λ from. from == step) e x) os i no_outage below)))));
          }
      | inr apart ↦
          ends_passed links os i step (get_or table step []) (get_or (set table o.from row) step []) below (λ same. apart (sym same))
          (get_or-set_other table o.from step row [] apart) (before step (omega (arith, within, length-set table o.from row)))
    ]

-- the marks that the ends give
pub marks_ended : (links t : ℕ) (os : List Outage) (latest : List ℕ) → AreEnds links (λ from. nat_lt from (t + 1)) os latest →
    map (λ e. nat_lt t (get_or latest e 0)) (range_with_len 0 (length latest)) ≡ map (λ e. list_any (is_during t e) os) (range_with_len 0 links)
marks_ended links t os latest are =
    fill_by_all (λ e. list_any (is_during t e) os) (map (λ e. nat_lt t (get_or latest e 0)) (range_with_len 0 (length latest))) links false
    (length-map-range_with_len (λ e. nat_lt t (get_or latest e 0)) 0 (length latest) ∙ are.count)
    (λ e below. get_or-map-range_with_len (λ e. nat_lt t (get_or latest e 0)) 0 (length latest) e e false (omega (arith, below, are.count)) (omega arith)
    ∙ ends_mark links t os latest are e below)

-- the list that is lent for a step
pub row_lent : (table : List (List ℕ)) (step : ℕ) (shown row : List ℕ) → shown ≡ row → row ≡ get_or table step row → step < length table → shown ≡ get_or table step []
row_lent table step shown row same is inside = same ∙ get_or_read table step row inside is []
