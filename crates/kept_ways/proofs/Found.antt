-- The ways of a pair, and a longest one, among the first of all ways.
use Rattle.std.proofs.Common.{◌≡◌, ◌⊎◌, ℕ, ◌+◌, ◌<◌, ◌≤◌, List, ◌==◌, length, take, arith, ap, refl, slice_index, sym, subst, ◌∙◌, inl, inr}
use Rattle.std.proofs.lemmas.Bool.{cases_eq, cases_lt, eq-eqb, ne_eqb}
use Rattle.std.proofs.lemmas.List.Sums.{count_by_more_no, count_by_more_yes}
use Rattle.kept_ways.specs.declared.longest.PairWays.{PairWays}
use Rattle.kept_ways.specs.declared.ways.KeptWay.{KeptWay}
use Rattle.kept_ways.specs.KeptWays.{no_way, way_at, ways_of, IsLongest}

-- a way of the pair among the first n, and its length
pub record IsWayOf (ways : List KeptWay) (lengths : List ℕ) (place n i x : ℕ) : Type 0 where
  pub before : i < n
  pub pair : (way_at ways i).place ≡ place
  pub far : x ≡ slice_index lengths i

-- how many of the first n ways are the pair's, and a longest one of them
pub record IsFoundIn (ways : List KeptWay) (lengths : List ℕ) (place n count i far : ℕ) : Type 0 where
  pub count_is : count ≡ ways_of place (take n ways)
  pub few : count ≤ n
  pub longest : (k : ℕ) → k < n → (way_at ways k).place ≡ place → slice_index lengths k ≤ far
  pub which : ((count ≡ 0) × (far ≡ 0)) ⊎ IsWayOf ways lengths place n i far

pub found_none : (ways : List KeptWay) (lengths : List ℕ) (place : ℕ) → IsFoundIn ways lengths place 0 0 0 0
found_none ways lengths place = record {
  count_is = refl;
  few = omega arith;
  longest = λ k below same. absurd (omega (arith, below));
  which = inl (refl, refl);
}

-- a way of another pair
pub found_other : (ways : List KeptWay) (lengths : List ℕ) (place n count i far : ℕ) → n < length ways → ((way_at ways n).place ≡ place → ⊥) →
    IsFoundIn ways lengths place n count i far → IsFoundIn ways lengths place (n + 1) count i far
found_other ways lengths place n count i far inside other found = record {
  count_is =
      found.count_is ∙ sym (count_by_more_no (λ (w : KeptWay). w.place == place) ways n no_way inside (ne_eqb (way_at ways n).place place other));
  few = omega (arith, found.few);
  longest = λ k below same. elim (cases_eq k n) [
    | inl last ↦ absurd (other (subst (λ j. (way_at ways j).place ≡ place) last same))
    | inr before ↦ found.longest k (omega (arith, below, before)) same
  ];
  which = elim found.which [
    | inl none ↦ inl none
    | inr one ↦ inr (record { before = omega (arith, one.before); pair = one.pair; far = one.far })
  ];
}

-- a way of the pair that is no shorter
pub found_longer : (ways : List KeptWay) (lengths : List ℕ) (place n count i far : ℕ) → n < length ways → (way_at ways n).place ≡ place →
    far ≤ slice_index lengths n → IsFoundIn ways lengths place n count i far → IsFoundIn ways lengths place (n + 1) (count + 1) n (slice_index lengths n)
found_longer ways lengths place n count i far inside same longer found = record {
  count_is =
      ap (λ t. t + 1) found.count_is
      ∙ sym (count_by_more_yes (λ (w : KeptWay). w.place == place) ways n no_way inside (eq-eqb (way_at ways n).place place same));
  few = omega (arith, found.few);
  longest = λ k below of_pair. elim (cases_eq k n) [
    | inl last ↦ subst (λ j. slice_index lengths j ≤ slice_index lengths n) (sym last) (omega arith)
    | inr before ↦ omega (arith, longer, found.longest k (omega (arith, below, before)) of_pair)
  ];
  which = inr (record { before = omega arith; pair = same; far = refl });
}

-- a way of the pair that is shorter than the longest
pub found_shorter : (ways : List KeptWay) (lengths : List ℕ) (place n count i far : ℕ) → n < length ways → (way_at ways n).place ≡ place →
    slice_index lengths n < far → IsFoundIn ways lengths place n count i far → IsFoundIn ways lengths place (n + 1) (count + 1) i far
found_shorter ways lengths place n count i far inside same shorter found = record {
  count_is =
      ap (λ t. t + 1) found.count_is
      ∙ sym (count_by_more_yes (λ (w : KeptWay). w.place == place) ways n no_way inside (eq-eqb (way_at ways n).place place same));
  few = omega (arith, found.few);
  longest = λ k below of_pair. elim (cases_eq k n) [
    | inl last ↦ subst (λ j. slice_index lengths j ≤ far) (sym last) (omega (arith, shorter))
    | inr before ↦ found.longest k (omega (arith, below, before)) of_pair
  ];
  which = elim found.which [
    | inl none ↦ absurd (omega (arith, none.1, shorter))
    | inr one ↦ inr (record { before = omega (arith, one.before); pair = one.pair; far = one.far })
  ];
}

-- what `with_way` makes of what was found
pub found_more : (ways : List KeptWay) (lengths : List ℕ) (place n : ℕ) (w : KeptWay) (f g : PairWays) → n < length ways → w ≡ way_at ways n →
    IsFoundIn ways lengths place n f.count f.longest f.length → ((w.place ≡ place → ⊥) → g ≡ f) → (w.place ≡ place → g.count ≡ f.count + 1) →
    (w.place ≡ place → f.length ≤ slice_index lengths n → (g.longest ≡ n) × (g.length ≡ slice_index lengths n)) →
    (w.place ≡ place → slice_index lengths n < f.length → (g.longest ≡ f.longest) × (g.length ≡ f.length)) →
    IsFoundIn ways lengths place (n + 1) g.count g.longest g.length
found_more ways lengths place n w f g inside is found other count taken kept =
    elim (cases_eq w.place place) [
      | inr apart ↦
          subst (λ (h : PairWays). IsFoundIn ways lengths place (n + 1) h.count h.longest h.length) (sym (other apart))
          (found_other ways lengths place n f.count f.longest f.length inside (subst (λ (v : KeptWay). v.place ≡ place → ⊥) is apart) found)
      | inl same ↦
          let of_pair = subst (λ (v : KeptWay). v.place ≡ place) is same in
          elim (cases_lt (slice_index lengths n) f.length) [
            | inl shorter ↦
                put (f.count + 1) f.longest f.length g.count g.longest g.length (count same) (kept same shorter).0 (kept same shorter).1
                (found_shorter ways lengths place n f.count f.longest f.length inside of_pair shorter found)
            | inr longer ↦
                put (f.count + 1) n (slice_index lengths n) g.count g.longest g.length (count same) (taken same longer).0 (taken same longer).1
                (found_longer ways lengths place n f.count f.longest f.length inside of_pair longer found)
          ]
    ]
  where
    put : (c i x d j y : ℕ) → d ≡ c → j ≡ i → y ≡ x → IsFoundIn ways lengths place (n + 1) c i x → IsFoundIn ways lengths place (n + 1) d j y
    put c i x d j y count_is at far it =
        subst (λ t. IsFoundIn ways lengths place (n + 1) t j y) (sym count_is)
        (subst (λ t. IsFoundIn ways lengths place (n + 1) c t y) (sym at) (subst (λ t. IsFoundIn ways lengths place (n + 1) c i t) (sym far) it))

-- a longest way of the pair, where some of all ways are the pair's
pub found_longest : (ways : List KeptWay) (lengths : List ℕ) (place count i far : ℕ) → IsFoundIn ways lengths place (length ways) count i far → 1 ≤ count →
    IsLongest ways lengths place i
found_longest ways lengths place count i far found some =
    elim found.which [
      | inl none ↦ absurd (omega (arith, none.0, some))
      | inr one ↦ record {
        inside = one.before;
        pair = one.pair;
        longest = λ k below same. subst (λ t. slice_index lengths k ≤ t) one.far (found.longest k below same);
      }
    ]
