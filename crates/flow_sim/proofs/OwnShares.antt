-- Fair shares of the arrivals of a link alone are those of all flows, of which the others bring nothing.
use Rattle.std.proofs.Common.{◌≡◌, ℕ, zero, suc, ◌+◌, ◌-◌, ◌<◌, ◌≤◌, Bool, true, false, List, [], ◌∷◌, ◌++◌, length, map, min, slice_index, arith, refl, ap, sym, ◌∙◌, inl, inr, ◌==◌, ◌&&◌, subst, length-append}
use Rattle.std.specs.Prelude.{if◌then◌else◌, nat_lt, nat_le, sum_by}
use Rattle.std.proofs.lemmas.Bool.{cases_lt, false≢true}
use Rattle.std.proofs.lemmas.Bool.Decides.{nat_tests}
use Rattle.std.proofs.lemmas.List.{get_or-map, get_or_append_left, length-map}
use Rattle.std.proofs.lemmas.List.Sums.{sum_by-append, sum-map}
use Rattle.std.proofs.lemmas.List.FromFn.{get_or-map-range_with_len}
use Rattle.std.proofs.Math.Seq.{get_or-append_seam}
use Rattle.te_model.specs.Counting.{sum_below, count_below, last_upto}
use Rattle.te_model.proofs.Sums.{sum_below-same}
use Rattle.te_model.proofs.ApportionLaws.{sum_is_below}
use Rattle.flow_sim.specs.Fair.{taken_at, fair_level, share_at, fair}
use Rattle.flow_sim.specs.Step.{Setting, units, before_round}
use Rattle.flow_sim.specs.Asking.{numbers_below, asking_flows, arriving_units, ServesFairly}

last_upto-same : (n : ℕ) (p q : ℕ → Bool) → ((k : ℕ) → p k ≡ q k) → last_upto n p ≡ last_upto n q
last_upto-same zero p q each = refl
last_upto-same (suc n) p q each = rw (each (suc n), last_upto-same n p q each) refl

-- the amount of a number that passes, and nothing for another
abbrev pub padded : (ℕ → Bool) → (ℕ → ℕ) → ℕ → ℕ
padded test u k = if test k then u k else 0

map-append' : (u : ℕ → ℕ) (xs ys : List ℕ) → map u (xs ++ ys) ≡ map u xs ++ map u ys
map-append' u [] ys = refl
map-append' u (x ∷ xs) ys = ap (λ zs. u x ∷ zs) (map-append' u xs ys)

last_sum : (g u : ℕ → ℕ) (n : ℕ) (b : Bool) → g 0 ≡ 0 → sum_by g (map u (if b then n ∷ [] else [])) ≡ g (if b then u n else 0)
last_sum g u n true none = omega arith
last_sum g u n false none = sym none

pub passing_sum : (n : ℕ) (test : ℕ → Bool) (u g : ℕ → ℕ) → g 0 ≡ 0 → sum_by g (map u (numbers_below n test)) ≡ sum_below n (λ k. g (padded test u k))
passing_sum zero test u g none = refl
passing_sum (suc n) test u g none =
    ap (sum_by g) (map-append' u (numbers_below n test) (if test n then n ∷ [] else []))
    ∙ (sum_by-append g (map u (numbers_below n test)) (map u (if test n then n ∷ [] else []))
    ∙ (ap (λ x. x + sum_by g (map u (if test n then n ∷ [] else []))) (passing_sum n test u g none)
    ∙ ap (λ x. sum_below n (λ k. g (padded test u k)) + x) (last_sum g u n (test n) none)))

listed_sum : (g : ℕ → ℕ) (ys : List ℕ) → sum_below (length ys) (λ i. g (slice_index ys i)) ≡ sum_by g ys
listed_sum g ys =
    sym (sym (sum-map g ys) ∙ (sum_is_below (map g ys) ∙ (ap (λ n. sum_below n (slice_index (map g ys))) (length-map ys g)
    ∙ sum_below-same (length ys) (slice_index (map g ys)) (λ i. g (slice_index ys i)) (λ i below. get_or-map g ys i 0 0 below))))

-- a sum over what arrives is one over all
pub own_sum : (n : ℕ) (test : ℕ → Bool) (u g : ℕ → ℕ) → g 0 ≡ 0 →
    sum_below (length (map u (numbers_below n test))) (λ i. g (slice_index (map u (numbers_below n test)) i)) ≡ sum_below n (λ k. g (padded test u k))
own_sum n test u g none = listed_sum g (map u (numbers_below n test)) ∙ passing_sum n test u g none

-- where place i of the numbers that pass stands among all
pub record IsPlaced (n : ℕ) (test : ℕ → Bool) (i k : ℕ) : Type 0 where
  pub below : k < n
  pub passes : test k ≡ true
  pub before : length (numbers_below k test) ≡ i
  pub same : (j : ℕ) → j < i → slice_index (numbers_below k test) j ≡ slice_index (numbers_below n test) j

placed_last : (n : ℕ) (test : ℕ → Bool) (i : ℕ) (b : Bool) → test n ≡ b → length (numbers_below n test) ≤ i →
    i < length (numbers_below n test ++ (if b then n ∷ [] else [])) →
    (slice_index (numbers_below n test ++ (if b then n ∷ [] else [])) i ≡ n) × (test n ≡ true) × (length (numbers_below n test) ≡ i)
placed_last n test i true is past inside =
    let same : i ≡ length (numbers_below n test) = omega (arith, length-append (numbers_below n test) (n ∷ [])) in
    (ap (slice_index (numbers_below n test ++ n ∷ [])) same ∙ get_or-append_seam (numbers_below n test) n [] 0, is, sym same)
placed_last n test i false is past inside = absurd (omega (arith, length-append (numbers_below n test) []))

pub placed : (n : ℕ) (test : ℕ → Bool) (i : ℕ) → i < length (numbers_below n test) → IsPlaced n test i (slice_index (numbers_below n test) i)
placed zero test i inside = absurd (omega arith)
placed (suc n) test i inside =
    let xs = numbers_below n test in
    let tail = if test n then n ∷ [] else [] in
    elim (cases_lt i (length xs)) [
      | inl lt ↦
          let here : slice_index (xs ++ tail) i ≡ slice_index xs i = get_or_append_left xs tail 0 i lt in
          let old = placed n test i lt in
          subst (IsPlaced (suc n) test i) (sym here) (record {
            below = omega (arith, old.below);
            passes = old.passes;
            before = old.before;
            same = λ j j_below. old.same j j_below ∙ sym (get_or_append_left xs tail 0 j (omega arith));
          })
      | inr ge ↦
          let last = placed_last n test i (test n) refl ge inside in
          subst (IsPlaced (suc n) test i) (sym last.0) (record {
            below = omega arith;
            passes = last.1;
            before = last.2;
            same = λ j j_below. sym (get_or_append_left xs tail 0 j (omega (arith, last.2)));
          })
    ]

length_more : (m n : ℕ) (test : ℕ → Bool) → m ≤ n → length (numbers_below m test) ≤ length (numbers_below n test)
length_more m zero test within = let e : m ≡ 0 = omega arith in rw e (omega arith)
length_more m (suc n) test within =
    elim (cases_lt n m) [
      | inl lt ↦ let e : m ≡ suc n = omega arith in rw e (omega arith)
      | inr ge ↦
          omega (
            arith,
            length_more m n test ge,
            length-append (numbers_below n test) (if test n then n ∷ [] else []),
          )
    ]

-- the numbers that pass ascend
pub passing_ascend : (n : ℕ) (test : ℕ → Bool) (i j : ℕ) → i < j → j < length (numbers_below n test) →
    slice_index (numbers_below n test) i < slice_index (numbers_below n test) j
passing_ascend n test i j first inside =
    let a = placed n test i (omega arith) in
    let b = placed n test j inside in
    elim (cases_lt (slice_index (numbers_below n test) i) (slice_index (numbers_below n test) j)) [
      | inl lt ↦ lt
      | inr ge ↦
          absurd (omega (
            arith,
            length_more (slice_index (numbers_below n test) j) (slice_index (numbers_below n test) i) test ge,
            a.before,
            b.before,
          ))
    ]

last_place : (n : ℕ) (test : ℕ → Bool) (b : Bool) → b ≡ true →
    (length (numbers_below n test) < length (numbers_below n test ++ (if b then n ∷ [] else [])))
    × (slice_index (numbers_below n test ++ (if b then n ∷ [] else [])) (length (numbers_below n test)) ≡ n)
last_place n test true is =
    (omega (arith, length-append (numbers_below n test) (n ∷ [])), get_or-append_seam (numbers_below n test) n [] 0)
last_place n test false is = absurd (false≢true is)

-- a number that passes stands where as many pass as before it
pub passing_place : (n : ℕ) (test : ℕ → Bool) (k : ℕ) → k < n → test k ≡ true →
    (length (numbers_below k test) < length (numbers_below n test))
    × (slice_index (numbers_below n test) (length (numbers_below k test)) ≡ k)
passing_place zero test k below passes = absurd (omega arith)
passing_place (suc n) test k below passes =
    let tail = if test n then n ∷ [] else [] in
    elim (cases_lt k n) [
      | inl lt ↦
          let old = passing_place n test k lt passes in (
            omega (arith, old.0, length-append (numbers_below n test) tail),
            get_or_append_left (numbers_below n test) tail 0 (length (numbers_below k test)) old.0 ∙ old.1,
          )
      | inr ge ↦
          let e : k ≡ n = omega arith in
          rw e (last_place n test (test n) (ap test (sym e) ∙ passes))
    ]

own_level : (left n : ℕ) (test : ℕ → Bool) (u : ℕ → ℕ) →
    fair_level left n (padded test u) ≡ fair_level left (length (map u (numbers_below n test))) (slice_index (map u (numbers_below n test)))
own_level left n test u =
    last_upto-same left _ _ (λ l. ap (λ x. nat_le x left) (sym (own_sum n test u (λ x. min x l) (omega arith))))

-- as many of what arrived before are above the level
own_above : (n : ℕ) (test : ℕ → Bool) (u : ℕ → ℕ) (l i k : ℕ) → i < length (numbers_below n test) → IsPlaced n test i k →
    count_below k (λ m. nat_lt l (padded test u m)) ≡ count_below i (λ j. nat_lt l (slice_index (map u (numbers_below n test)) j))
own_above n test u l i k inside at =
    let none : (if nat_lt l 0 then 1 else 0) ≡ 0 = grind (arith, nat_tests) in
    let size : length (map u (numbers_below k test)) ≡ i = length-map (numbers_below k test) u ∙ at.before in
    sym (own_sum k test u (λ x. if nat_lt l x then 1 else 0) none)
    ∙ (ap (λ c. sum_below c (λ j. if nat_lt l (slice_index (map u (numbers_below k test)) j) then 1 else 0)) size
    ∙ sum_below-same i (λ j. if nat_lt l (slice_index (map u (numbers_below k test)) j) then 1 else 0)
    (λ j. if nat_lt l (slice_index (map u (numbers_below n test)) j) then 1 else 0)
    (λ j below. ap (λ x. if nat_lt l x then 1 else 0)
    (get_or-map u (numbers_below k test) j 0 0 (omega (arith, at.before))
    ∙ (ap u (at.same j below) ∙ sym (get_or-map u (numbers_below n test) j 0 0 (omega arith))))))

-- the shares are the same
own_fair : (left n : ℕ) (test : ℕ → Bool) (u : ℕ → ℕ) (i k : ℕ) → k ≡ slice_index (numbers_below n test) i → i < length (numbers_below n test) → IsPlaced n test i k →
    fair left n (padded test u) k ≡ fair left (length (map u (numbers_below n test))) (slice_index (map u (numbers_below n test))) i
own_fair left n test u i k is inside at =
    let ys = map u (numbers_below n test) in
    let m = length ys in
    let total = own_sum n test u (λ x. x) refl in
    let level = own_level left n test u in
    let l = fair_level left m (slice_index ys) in
    let amount : padded test u k ≡ slice_index ys i =
    ap (λ b. if b then u k else 0) at.passes ∙ (ap u is ∙ sym (get_or-map u (numbers_below n test) i 0 0 inside)) in
    let above = own_above n test u l i k inside at in
    let taken : taken_at n (padded test u) l ≡ taken_at m (slice_index ys) l = sym (own_sum n test u (λ x. min x l) (omega arith)) in
    pick left (sum_below n (padded test u)) (sum_below m (slice_index ys)) _ _ (padded test u k) (slice_index ys i) (sym total) amount
    (ap (λ h. share_at left n (padded test u) h k) level
    ∙ shared left l (padded test u k) (slice_index ys i) _ _ _ _ amount above taken)
  where
    shared : (left l x y c d s t : ℕ) → x ≡ y → c ≡ d → s ≡ t →
        min x l + (if nat_lt l x && nat_lt c (left - s) then 1 else 0) ≡ min y l + (if nat_lt l y && nat_lt d (left - t) then 1 else 0)
    shared left l x y c d s t e f g = rw (e, f, g) refl

    pick : (left p q x y v w : ℕ) → p ≡ q → v ≡ w → x ≡ y → (if nat_le p left then v else x) ≡ (if nat_le q left then w else y)
    pick left p q x y v w e f g = rw (e, f, g) refl

-- each link serves fair shares of what arrives at it
pub serves_fairly : (s : Setting) → ServesFairly s
serves_fairly s = λ r e i inside.
    let test = λ (f : ℕ). s.hop f r == e in
    let ys = arriving_units s r e in
    ap (λ x. if s.has_failed e then 0 else x)
    (own_fair ((before_round s r).left e) s.flows test (λ f. units s f r) i (slice_index (asking_flows s r e) i) refl inside (placed s.flows test i inside)
    ∙ sym (get_or-map-range_with_len (fair ((before_round s r).left e) (length ys) (slice_index ys)) 0 (length ys) i i 0
    (omega (arith, length-map (asking_flows s r e) (λ f. units s f r))) (omega arith)))
