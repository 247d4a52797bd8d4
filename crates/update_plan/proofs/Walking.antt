-- One path more of a pair in two splits, side by side.
use Rattle.std.proofs.Common.{◌⊎◌, inl, inr, ◌≡◌, ℕ, suc, ◌+◌, ◌-◌, ◌<◌, ◌≤◌, Bool, true, false, not, ◌&&◌, List, [], ◌∷◌, ◌++◌, length, get_or, take, arith, refl, ap, sym, ◌∙◌, subst, nat_lt, All}
use Rattle.std.specs.Prelude.{IsTrue, if◌then◌else◌}
use Rattle.std.specs.List.{AllPairs}
use Rattle.std.proofs.lemmas.Bool.{and_parts, cases_lt, false≢true, lt-ltb, ltb-true, or_cases, or_left, or_right}
use Rattle.std.proofs.lemmas.List.{length_push, take_all}
use Rattle.std.proofs.lemmas.List.Elements.{All-get_or, All-nil, All-push, All-weaker}
use Rattle.std.proofs.lemmas.List.Quantifiers.{all_pairs_push}
use Rattle.std.proofs.lemmas.List.Sums.{sum_by_more, sum_by_push}
use Rattle.te_model.specs.declared.route.PathShare.{PathShare}
use Rattle.te_model.specs.Validity.{list_below, paths_ascend}
use Rattle.te_model.proofs.Conditionals.{if_zero}
use Rattle.te_model.proofs.ListOrder.{list_below-cases, list_below-irrefl, list_below-trans}
use Rattle.routing.specs.Merge.{links_at, no_path, path_at, weight_where}
use Rattle.routing.proofs.Ascending.{ascending_at}
use Rattle.update_plan.specs.declared.path.UpdatePath.{UpdatePath}
use Rattle.update_plan.specs.Paths.{AreSideBySide, weight_by}
use Rattle.update_plan.specs.Walk.{comes_next, is_left, next_update, place_after}

-- the first i paths of a split are among those that are side by side, all of which come before the next
pub record HasWalked (weight : UpdatePath → ℕ) (xs : List PathShare) (i : ℕ) (own : List UpdatePath) : Type 0 where
  pub within : i ≤ length xs
  pub weights : (test : List ℕ → Bool) → weight_by weight test own ≡ weight_where test (take i xs)
  pub below : i < length xs → All (λ u. list_below u.links (links_at xs i) ≡ true) own

-- the first i paths of the one split and the first j of the other, side by side
pub record IsWalked (p : ℕ) (old new : List PathShare) (i j : ℕ) (paths : List UpdatePath) : Type 0 where
  pub ascending : AllPairs (λ u v. IsTrue (list_below u.links v.links)) paths
  pub own : All (λ u. (u.pair ≡ p) × (1 ≤ u.before + u.after)) paths
  pub few : length paths ≤ i + j
  pub before : HasWalked (λ u. u.before) old i paths
  pub after : HasWalked (λ u. u.after) new j paths

walked_no : (weight : UpdatePath → ℕ) (xs : List PathShare) → HasWalked weight xs 0 []
walked_no weight xs = record {
  within = omega arith;
  weights = λ test. refl;
  below = λ some. All-nil (λ (u : UpdatePath). list_below u.links (links_at xs 0) ≡ true);
}

pub walked_none : (p : ℕ) (before after : List PathShare) → IsWalked p before after 0 0 []
walked_none p before after = record {
  ascending = λ a b d lt below. absurd (omega (arith, below));
  own = All-nil (λ (u : UpdatePath). (u.pair ≡ p) × (1 ≤ u.before + u.after));
  few = omega arith;
  before = walked_no (λ u. u.before) before;
  after = walked_no (λ u. u.after) after;
}

-- the next path is of this split
taken : (weight : UpdatePath → ℕ) (xs : List PathShare) (i : ℕ) (own : List UpdatePath) (u : UpdatePath) → paths_ascend xs ≡ true → i < length xs →
    u.links ≡ links_at xs i → weight u ≡ (path_at xs i).weight → HasWalked weight xs i own → HasWalked weight xs (i + 1) (own ++ u ∷ [])
taken weight xs i own u asc below links is walked = record {
  within = omega (arith, below);
  weights = λ test.
      let more = sum_by_more (λ (s : PathShare). if test s.links then s.weight else 0) xs i no_path below in
      let pushed = sum_by_push (λ (v : UpdatePath). if test v.links then weight v else 0) own u in
      let same : (if test u.links then weight u else 0) ≡ (if test (links_at xs i) then (path_at xs i).weight else 0) =
      ap (λ l. if test l then weight u else 0) links ∙ ap (λ w. if test (links_at xs i) then w else 0) is
      in
      pushed ∙ (ap (λ n. n + (if test u.links then weight u else 0)) (walked.weights test) ∙ (ap (λ n. weight_where test (take i xs) + n) same ∙ sym more));
  below = λ next.
      let e : i + 1 ≡ suc i = omega arith in
      let step : list_below (links_at xs i) (links_at xs (i + 1)) ≡ true =
      subst (λ n. list_below (links_at xs i) (links_at xs n) ≡ true) (sym e) (ascending_at xs i asc (omega (arith, next)))
      in
      All-push (λ (v : UpdatePath). list_below v.links (links_at xs (i + 1)) ≡ true) own u
      (All-weaker (λ (v : UpdatePath). list_below v.links (links_at xs i) ≡ true) (λ (v : UpdatePath). list_below v.links (links_at xs (i + 1)) ≡ true)
      (λ v lt. list_below-trans v.links (links_at xs i) (links_at xs (i + 1)) lt step) own (walked.below below))
      (subst (λ l. list_below l (links_at xs (i + 1)) ≡ true) (sym links) step);
}

-- the next path is none of this split
kept : (weight : UpdatePath → ℕ) (xs : List PathShare) (i : ℕ) (own : List UpdatePath) (u : UpdatePath) → weight u ≡ 0 →
    (i < length xs → list_below u.links (links_at xs i) ≡ true) → HasWalked weight xs i own → HasWalked weight xs i (own ++ u ∷ [])
kept weight xs i own u none before walked = record {
  within = walked.within;
  weights = λ test.
      let pushed = sum_by_push (λ (v : UpdatePath). if test v.links then weight v else 0) own u in
      omega (arith, pushed, if_zero (test u.links) (weight u) none, walked.weights test);
  below = λ some.
      All-push (λ (v : UpdatePath). list_below v.links (links_at xs i) ≡ true) own u (walked.below some) (before some);
}

-- all paths so far come before a path with these links
all_before : (own : List UpdatePath) (links : List ℕ) (u : UpdatePath) → u.links ≡ links → All (λ v. list_below v.links links ≡ true) own →
    (k : ℕ) (d : UpdatePath) → k < length own → list_below (get_or own k d).links u.links ≡ true
all_before own links u same all k d below =
    subst (λ l. list_below (get_or own k d).links l ≡ true) (sym same) (All-get_or (λ (v : UpdatePath). list_below v.links links ≡ true) own k d below all)

ascending_push : (own : List UpdatePath) (links : List ℕ) (u : UpdatePath) → u.links ≡ links → All (λ v. list_below v.links links ≡ true) own →
    AllPairs (λ v w. IsTrue (list_below v.links w.links)) own → AllPairs (λ v w. IsTrue (list_below v.links w.links)) (own ++ u ∷ [])
ascending_push own links u same all asc = all_pairs_push (λ (v w : UpdatePath). IsTrue (list_below v.links w.links)) own u asc (all_before own links u same all)

owned : (p : ℕ) (own : List UpdatePath) (u : UpdatePath) → u.pair ≡ p → 1 ≤ u.before + u.after → All (λ v. (v.pair ≡ p) × (1 ≤ v.before + v.after)) own →
    All (λ v. (v.pair ≡ p) × (1 ≤ v.before + v.after)) (own ++ u ∷ [])
owned p own u pair some all = All-push (λ (v : UpdatePath). (v.pair ≡ p) × (1 ≤ v.before + v.after)) own u all (pair, some)

weight_some : (xs : List PathShare) (i : ℕ) → i < length xs → All (λ s. 1 ≤ s.weight) xs → 1 ≤ (path_at xs i).weight
weight_some xs i below all = All-get_or (λ (s : PathShare). 1 ≤ s.weight) xs i no_path below all

-- the next path is of the one split alone
walk_before : (p : ℕ) (before after : List PathShare) (i j : ℕ) (own : List UpdatePath) (u : UpdatePath) → paths_ascend before ≡ true →
    All (λ s. 1 ≤ s.weight) before → i < length before → (j < length after → list_below (links_at before i) (links_at after j) ≡ true) →
    u.pair ≡ p → u.links ≡ links_at before i → u.before ≡ (path_at before i).weight → u.after ≡ 0 →
    IsWalked p before after i j own → IsWalked p before after (i + 1) j (own ++ u ∷ [])
walk_before p before after i j own u asc some i_in first pair links weight none walked = record {
  ascending = ascending_push own (links_at before i) u links (walked.before.below i_in) walked.ascending;
  own = owned p own u pair (omega (arith, weight, weight_some before i i_in some)) walked.own;
  few = omega (arith, length_push own u, walked.few);
  before = taken (λ v. v.before) before i own u asc i_in links weight walked.before;
  after = kept (λ v. v.after) after j own u none (λ j_in. subst (λ l. list_below l (links_at after j) ≡ true) (sym links) (first j_in)) walked.after;
}

-- the next path is of the other split alone
walk_after : (p : ℕ) (before after : List PathShare) (i j : ℕ) (own : List UpdatePath) (u : UpdatePath) → paths_ascend after ≡ true →
    All (λ s. 1 ≤ s.weight) after → j < length after → (i < length before → list_below (links_at after j) (links_at before i) ≡ true) →
    u.pair ≡ p → u.links ≡ links_at after j → u.after ≡ (path_at after j).weight → u.before ≡ 0 →
    IsWalked p before after i j own → IsWalked p before after i (j + 1) (own ++ u ∷ [])
walk_after p before after i j own u asc some j_in first pair links weight none walked = record {
  ascending = ascending_push own (links_at after j) u links (walked.after.below j_in) walked.ascending;
  own = owned p own u pair (omega (arith, weight, weight_some after j j_in some)) walked.own;
  few = omega (arith, length_push own u, walked.few);
  before = kept (λ v. v.before) before i own u none (λ i_in. subst (λ l. list_below l (links_at before i) ≡ true) (sym links) (first i_in)) walked.before;
  after = taken (λ v. v.after) after j own u asc j_in links weight walked.after;
}

-- the next path is of both
walk_both : (p : ℕ) (before after : List PathShare) (i j : ℕ) (own : List UpdatePath) (u : UpdatePath) → paths_ascend before ≡ true → paths_ascend after ≡ true →
    All (λ s. 1 ≤ s.weight) before → i < length before → j < length after → links_at before i ≡ links_at after j →
    u.pair ≡ p → u.links ≡ links_at before i → u.before ≡ (path_at before i).weight → u.after ≡ (path_at after j).weight →
    IsWalked p before after i j own → IsWalked p before after (i + 1) (j + 1) (own ++ u ∷ [])
walk_both p before after i j own u asc asc' some i_in j_in same pair links weight weight' walked = record {
  ascending = ascending_push own (links_at before i) u links (walked.before.below i_in) walked.ascending;
  own = owned p own u pair (omega (arith, weight, weight_some before i i_in some)) walked.own;
  few = omega (arith, length_push own u, walked.few);
  before = taken (λ v. v.before) before i own u asc i_in links weight walked.before;
  after = taken (λ v. v.after) after j own u asc' j_in (links ∙ same) weight' walked.after;
}

pub next_true : (xs : List PathShare) (i : ℕ) (ys : List PathShare) (j : ℕ) → comes_next xs i ys j ≡ true →
    (i < length xs) × (j < length ys → list_below (links_at ys j) (links_at xs i) ≡ false)
next_true xs i ys j is =
    let parts = and_parts (nat_lt i (length xs)) (not (nat_lt j (length ys) && list_below (links_at ys j) (links_at xs i))) is in
    (ltb-true i (length xs) parts.0, λ below. off (nat_lt j (length ys)) (list_below (links_at ys j) (links_at xs i)) (lt-ltb j (length ys) below) parts.1)
  where
    off : (a b : Bool) → a ≡ true → not (a && b) ≡ true → b ≡ false
    off true true a is = absurd (false≢true is)
    off true false a is = refl
    off false b a is = absurd (false≢true a)

next_false : (xs : List PathShare) (i : ℕ) (ys : List PathShare) (j : ℕ) → comes_next xs i ys j ≡ false → i < length xs →
    (j < length ys) × (list_below (links_at ys j) (links_at xs i) ≡ true)
next_false xs i ys j is below =
    let parts = on (nat_lt i (length xs)) (nat_lt j (length ys)) (list_below (links_at ys j) (links_at xs i)) (lt-ltb i (length xs) below) is in
    (ltb-true j (length ys) parts.0, parts.1)
  where
    on : (a b c : Bool) → a ≡ true → (a && not (b && c)) ≡ false → (b ≡ true) × (c ≡ true)
    on true true true a is = (refl, refl)
    on true true false a is = absurd (false≢true (sym is))
    on true false c a is = absurd (false≢true (sym is))
    on false b c a is = absurd (false≢true a)

-- what is left
pub left_of : (before after : List PathShare) (i j : ℕ) → is_left before i after j ≡ true → (i < length before) ⊎ (j < length after)
left_of before after i j is = elim (or_cases (nat_lt i (length before)) (nat_lt j (length after)) is) [
  | inl i_in ↦ inl (ltb-true i (length before) i_in)
  | inr j_in ↦ inr (ltb-true j (length after) j_in)
]

pub none_left : (before after : List PathShare) (i j : ℕ) → is_left before i after j ≡ false → (length before ≤ i) × (length after ≤ j)
none_left before after i j is = (
  elim (cases_lt i (length before)) [
    | inl lt ↦ absurd (false≢true (sym is ∙ or_left (nat_lt i (length before)) (nat_lt j (length after)) (lt-ltb i (length before) lt)))
    | inr ge ↦ ge
  ],
  elim (cases_lt j (length after)) [
    | inl lt ↦ absurd (false≢true (sym is ∙ or_right (nat_lt i (length before)) (nat_lt j (length after)) (lt-ltb j (length after) lt)))
    | inr ge ↦ ge
  ],
)

-- the links of the next path are there
pub next_there : (before after : List PathShare) (i j : ℕ) → (i < length before) ⊎ (j < length after) → IsTrue (comes_next before i after j) ⊎ (j < length after)
next_there before after i j left = elim left [ inl i_in ↦ go (comes_next before i after j) refl i_in | inr j_in ↦ inr j_in ]
  where
    go : (b : Bool) → comes_next before i after j ≡ b → i < length before → IsTrue (comes_next before i after j) ⊎ (j < length after)
    go true e i_in = inl e
    go false e i_in = inr (next_false before i after j e i_in).0

-- one of the two comes next, where one is left
pub one_next : (before after : List PathShare) (i j : ℕ) → (i < length before) ⊎ (j < length after) →
    comes_next before i after j ≡ false → comes_next after j before i ≡ false → ⊥
one_next before after i j left b a = elim left [
  | inl i_in ↦
      let one = next_false before i after j b i_in in
      apart one.1 (next_false after j before i a one.0).1
  | inr j_in ↦
      let one = next_false after j before i a j_in in
      apart (next_false before i after j b one.0).1 one.1
]
  where
    apart : list_below (links_at after j) (links_at before i) ≡ true → list_below (links_at before i) (links_at after j) ≡ true → ⊥
    apart gt lt = list_below-irrefl (links_at before i) (list_below-trans (links_at before i) (links_at after j) (links_at before i) lt gt)

both_same : (before after : List PathShare) (i j : ℕ) → comes_next before i after j ≡ true → comes_next after j before i ≡ true →
    links_at before i ≡ links_at after j
both_same before after i j b a =
    let one = next_true before i after j b in
    let two = next_true after j before i a in
    elim (list_below-cases (links_at before i) (links_at after j)) [
      | inl same ↦ same
      | inr other ↦ elim other [
        | inl lt ↦ absurd (false≢true (sym (two.1 one.0) ∙ lt))
        | inr gt ↦ absurd (false≢true (sym (one.1 two.0) ∙ gt))
      ]
    ]

-- the next path of the two splits
pub walk_on : (p : ℕ) (before after : List PathShare) (i j : ℕ) (own : List UpdatePath) → paths_ascend before ≡ true → paths_ascend after ≡ true →
    All (λ s. 1 ≤ s.weight) before → All (λ s. 1 ≤ s.weight) after → (i < length before) ⊎ (j < length after) → IsWalked p before after i j own →
    IsWalked p before after (place_after (comes_next before i after j) i) (place_after (comes_next after j before i) j) (own ++ next_update p before i after j ∷ [])
walk_on p before after i j own asc asc' some some' left walked = go (comes_next before i after j) (comes_next after j before i) refl refl
  where
    weight_before : (b : Bool) → comes_next before i after j ≡ b → (next_update p before i after j).before ≡ (if b then (path_at before i).weight else 0)
    weight_before b e = ap (λ c. if c then (path_at before i).weight else 0) e

    weight_after : (a : Bool) → comes_next after j before i ≡ a → (next_update p before i after j).after ≡ (if a then (path_at after j).weight else 0)
    weight_after a e = ap (λ c. if c then (path_at after j).weight else 0) e

    links : (b : Bool) → comes_next before i after j ≡ b → (next_update p before i after j).links ≡ (if b then links_at before i else links_at after j)
    links b e = ap (λ c. if c then links_at before i else links_at after j) e

    go : (b a : Bool) → comes_next before i after j ≡ b → comes_next after j before i ≡ a →
        IsWalked p before after (place_after b i) (place_after a j) (own ++ next_update p before i after j ∷ [])
    go true true eb ea =
        walk_both p before after i j own (next_update p before i after j) asc asc' some (next_true before i after j eb).0 (next_true after j before i ea).0 (both_same before after i j eb ea)
        refl (links true eb) (weight_before true eb) (weight_after true ea) walked
    go true false eb ea =
        walk_before p before after i j own (next_update p before i after j) asc some (next_true before i after j eb).0 (λ j_in. (next_false after j before i ea j_in).1)
        refl (links true eb) (weight_before true eb) (weight_after false ea) walked
    go false true eb ea =
        walk_after p before after i j own (next_update p before i after j) asc' some' (next_true after j before i ea).0 (λ i_in. (next_false before i after j eb i_in).1)
        refl (links false eb) (weight_after true ea) (weight_before false eb) walked
    go false false eb ea = absurd (one_next before after i j left eb ea)

-- less is left
pub walk_smaller : (before after : List PathShare) (i j : ℕ) → (i < length before) ⊎ (j < length after) →
    (length before - place_after (comes_next before i after j) i) + (length after - place_after (comes_next after j before i) j)
    < (length before - i) + (length after - j)
walk_smaller before after i j left = go (comes_next before i after j) (comes_next after j before i) refl refl
  where
    go : (b a : Bool) → comes_next before i after j ≡ b → comes_next after j before i ≡ a →
        (length before - place_after b i) + (length after - place_after a j) < (length before - i) + (length after - j)
    go true true eb ea = omega (arith, (next_true before i after j eb).0, (next_true after j before i ea).0)
    go true false eb ea = omega (arith, (next_true before i after j eb).0)
    go false true eb ea = omega (arith, (next_true after j before i ea).0)
    go false false eb ea = absurd (one_next before after i j left eb ea)

-- all paths of both
pub walk_end : (p : ℕ) (before after : List PathShare) (i j : ℕ) (own : List UpdatePath) → length before ≤ i → length after ≤ j →
    IsWalked p before after i j own → AreSideBySide p before after own
walk_end p before after i j own i_out j_out walked = record {
  ascending = walked.ascending;
  own = walked.own;
  before_is = λ test. walked.before.weights test ∙ ap (weight_where test) (take_all i before i_out);
  after_is = λ test. walked.after.weights test ∙ ap (weight_where test) (take_all j after j_out);
}
