-- The demands of pairs by those of some of them, which stand among them in order.
use Rattle.std.proofs.Common.{ℕ, zero, suc, ◌+◌, ◌<◌, ◌≤◌, ◌≡◌, ◌∙◌, refl, sym, ap, subst, inl, inr, List, [], ◌∷◌, ◌++◌, length, get_or, drop, map, filter, replicate, All, AllPairs, Bool, true, false, cond, arith}
use Rattle.std.proofs.lemmas.Bool.{cases_lt, false_from_ne_true}
use Rattle.std.proofs.lemmas.List.{get_or_default}
use Rattle.std.proofs.lemmas.List.Elements.{All-filter, All-head, All-tail}
use Rattle.std.proofs.Math.Seq.{drop-cons}
use Rattle.te_model.specs.declared.demand.Matrix.{Matrix}
use Rattle.te_model.specs.declared.route.Pair.{Pair}
use Rattle.te_model.specs.Pairs.{no_pair}
use Rattle.te_model.proofs.AscendingPairs.{Below}
use Rattle.te_model.proofs.Tests.{get_or_past}
use Rattle.traffic_matrix.specs.Pairs.{begins_with, same_pair}
use Rattle.traffic_matrix.specs.declared.series.Series.{Series}
use Rattle.traffic_matrix.specs.Text.{no_matrix}
use Rattle.traffic_matrix.specs.Traffic.{demand_for, matrix_over}
use Rattle.te_model.proofs.AscendingPairs.{below_differ}
use Rattle.traffic_matrix.proofs.TableLemmas.{pair-parts, same-pair}
use Rattle.traffic_matrix.proofs.PairLists.{tail-ascends}

-- the demands of the pairs, one after another: that of the next own pair where it is the pair, and else 0
abbrev pub joined : List Pair → List Pair → List ℕ → List ℕ
joined [] own demand = []
joined (p ∷ ps) own demand = cond (begins_with own p) (get_or demand 0 0 ∷ joined ps (drop 1 own) (drop 1 demand)) (0 ∷ joined ps own demand)

apart-after : (p q : Pair) → Below p q → same_pair p q ≡ false
apart-after p q less = false_from_ne_true (same_pair p q) (λ h. let (s, d) = pair-parts p q h in below_differ p q less s d)

apart-before : (p q : Pair) → Below p q → same_pair q p ≡ false
apart-before p q less = false_from_ne_true (same_pair q p) (λ h. let (s, d) = pair-parts q p h in below_differ p q less (sym s) (sym d))

begins-not : (p : Pair) (own : List Pair) → All (Below p) own → begins_with own p ≡ false
begins-not p [] after = refl
begins-not p (q ∷ qs) after = apart-before p q (All-head (Below p) q qs after)

no-demand : (own : List Pair) (q : Pair) → demand_for own [] q ≡ 0
no-demand [] q = refl
no-demand (p ∷ ps) q = refl

demand-none : (p : Pair) (own : List Pair) (demand : List ℕ) → All (Below p) own → demand_for own demand p ≡ 0
demand-none p [] demand after = refl
demand-none p (q ∷ qs) [] after = refl
demand-none p (q ∷ qs) (d ∷ ds) after =
    rw (apart-before p q (All-head (Below p) q qs after)) (demand-none p qs ds (All-tail (Below p) q qs after))

-- the demands of later pairs are by the later demands
demands-later : (p : Pair) (ps own : List Pair) (demand : List ℕ) → All (Below p) ps →
    map (demand_for own (drop 1 demand)) ps ≡ map (demand_for (p ∷ own) demand) ps
demands-later p [] own demand after = refl
demands-later p (q ∷ qs) own [] after =
    let rest = demands-later p qs own [] (All-tail (Below p) q qs after) in
    rw (no-demand own q) (ap (λ (xs : List ℕ). 0 ∷ xs) rest)
demands-later p (q ∷ qs) own (d ∷ ds) after =
    let rest = demands-later p qs own (d ∷ ds) (All-tail (Below p) q qs after) in
    rw (apart-after p q (All-head (Below p) q qs after)) (ap (λ (xs : List ℕ). demand_for own ds q ∷ xs) rest)

own-demand : (p : Pair) (own : List Pair) (demand : List ℕ) → demand_for (p ∷ own) demand p ≡ get_or demand 0 0
own-demand p own [] = refl
own-demand p own (d ∷ ds) = rw (same-pair p p refl refl) refl

after-first : (p : Pair) (ps : List Pair) → AllPairs Below (p ∷ ps) → All (Below p) ps
after-first p ps ascend k d low = ascend 0 (suc k) d (omega arith) (omega arith)

-- so are the demands of all of the pairs
pub joined-is : (test : Pair → Bool) (pairs : List Pair) (demand : List ℕ) → AllPairs Below pairs →
    joined pairs (filter test pairs) demand ≡ map (demand_for (filter test pairs) demand) pairs
joined-is test [] demand ascend = refl
joined-is test (p ∷ ps) demand ascend =
    go (test p) (joined-is test ps (drop 1 demand) (tail-ascends p ps ascend)) (joined-is test ps demand (tail-ascends p ps ascend))
  where
    go : (b : Bool) → joined ps (filter test ps) (drop 1 demand) ≡ map (demand_for (filter test ps) (drop 1 demand)) ps →
        joined ps (filter test ps) demand ≡ map (demand_for (filter test ps) demand) ps →
        joined (p ∷ ps) (cond b (p ∷ filter test ps) (filter test ps)) demand
        ≡ map (demand_for (cond b (p ∷ filter test ps) (filter test ps)) demand) (p ∷ ps)
    go true own other =
        rw (same-pair p p refl refl, own-demand p (filter test ps) demand)
        (ap (λ (xs : List ℕ). get_or demand 0 0 ∷ xs) (own ∙ demands-later p ps (filter test ps) demand (after-first p ps ascend)))
    go false own other =
        let later = All-filter test (Below p) ps (after-first p ps ascend) in
        rw (begins-not p (filter test ps) later, demand-none p (filter test ps) demand later) (ap (λ (xs : List ℕ). 0 ∷ xs) other)

-- the pairs from the next one on, where it is this one
pub begins-at : (own : List Pair) (next : ℕ) (p : Pair) → next < length own → begins_with (drop next own) p ≡ same_pair (get_or own next no_pair) p
begins-at own next p low = ap (λ (qs : List Pair). begins_with qs p) (drop-cons own next no_pair low)

pub begins-past : (own : List Pair) (next : ℕ) (p : Pair) → length own ≤ next → begins_with (drop next own) p ≡ false
begins-past [] zero p low = refl
begins-past [] (suc next) p low = refl
begins-past (q ∷ qs) zero p low = absurd (omega arith)
begins-past (q ∷ qs) (suc next) p low = begins-past qs next p (omega arith)

drop-one : {X : Type 0} (xs : List X) (n : ℕ) → drop 1 (drop n xs) ≡ drop (suc n) xs
drop-one [] zero = refl
drop-one [] (suc n) = refl
drop-one (x ∷ xs) zero = refl
drop-one (x ∷ xs) (suc n) = drop-one xs n

first-left : (xs : List ℕ) (n : ℕ) → get_or (drop n xs) 0 0 ≡ get_or xs n 0
first-left [] zero = refl
first-left [] (suc n) = refl
first-left (x ∷ xs) zero = refl
first-left (x ∷ xs) (suc n) = first-left xs n

push-joins : (list rest : List ℕ) (x : ℕ) → (list ++ x ∷ []) ++ rest ≡ list ++ x ∷ rest
push-joins [] rest x = refl
push-joins (y ∷ ys) rest x = ap (λ (zs : List ℕ). y ∷ zs) (push-joins ys rest x)

-- one pair more
module _ (pairs own : List Pair) (demand : List ℕ) (i next : ℕ) (list : List ℕ) (low : i < length pairs) where
  pub own-more : begins_with (drop next own) (get_or pairs i no_pair) ≡ true →
      (list ++ get_or demand next 0 ∷ []) ++ joined (drop (i + 1) pairs) (drop (next + 1) own) (drop (next + 1) demand)
      ≡ list ++ joined (drop i pairs) (drop next own) (drop next demand)
  own-more is =
      let a : i + 1 ≡ suc i = omega arith in
      let b : next + 1 ≡ suc next = omega arith in
      push-joins list _ (get_or demand next 0)
      ∙ rw (a, b, drop-cons pairs i no_pair low, is, first-left demand next, drop-one own next, drop-one demand next) refl

  pub other-more : begins_with (drop next own) (get_or pairs i no_pair) ≡ false →
      (list ++ 0 ∷ []) ++ joined (drop (i + 1) pairs) (drop next own) (drop next demand)
      ≡ list ++ joined (drop i pairs) (drop next own) (drop next demand)
  other-more is =
      let a : i + 1 ≡ suc i = omega arith in
      push-joins list _ 0 ∙ rw (a, drop-cons pairs i no_pair low, is) refl

-- no demand of any pair
pub none-of-all : (own pairs : List Pair) → replicate (length pairs) 0 ≡ map (demand_for own []) pairs
none-of-all own [] = refl
none-of-all own (p ∷ ps) = rw (no-demand own p) (ap (λ (xs : List ℕ). 0 ∷ xs) (none-of-all own ps))

-- of the own pairs they are the demands
pub own-only : (own : List Pair) (demand : List ℕ) → AllPairs Below own → length demand ≡ length own → map (demand_for own demand) own ≡ demand
own-only [] [] ascend same = refl
own-only [] (d ∷ ds) ascend same = absurd (omega arith)
own-only (p ∷ ps) [] ascend same = absurd (omega arith)
own-only (p ∷ ps) (d ∷ ds) ascend same =
    rw (same-pair p p refl refl)
    (ap (λ (xs : List ℕ). d ∷ xs)
    (sym (demands-later p ps ps (d ∷ ds) (after-first p ps ascend)) ∙ own-only ps ds (tail-ascends p ps ascend) (omega arith)))

-- the matrix of a step that the series has, and of one that it does not have
pub matrix-there : (pairs : List Pair) (series : Series) (step : ℕ) (m other : Matrix) (demand : List ℕ) → step < length series.steps →
    m ≡ get_or series.steps step other → demand ≡ map (demand_for series.pairs.list m.demand) pairs → demand ≡ (matrix_over pairs series step).demand
matrix-there pairs series step m other demand low read is =
    is
    ∙ ap (λ (x : Matrix). map (demand_for series.pairs.list x.demand) pairs) (read ∙ get_or_default series.steps step other no_matrix low)

pub matrix-none : (pairs : List Pair) (series : Series) (step : ℕ) (demand : List ℕ) → length series.steps ≤ step → demand ≡ replicate (length pairs) 0 →
    demand ≡ (matrix_over pairs series step).demand
matrix-none pairs series step demand past is =
    is
    ∙ (none-of-all series.pairs.list pairs
    ∙ ap (λ (x : Matrix). map (demand_for series.pairs.list x.demand) pairs) (sym (get_or_past series.steps step no_matrix past)))
