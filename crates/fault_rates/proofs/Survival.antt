-- Why guarded grants survive failed links: what is left of the paths has at least the least allocations.
use Rattle.std.proofs.Common.{◌≡◌, ℕ, zero, suc, ◌+◌, ◌-◌, ◌*◌, ◌<◌, ◌≤◌, Bool, true, false, not, ◌&&◌, ◌||◌, ◌==◌, arith, refl, ap, sym, ◌∙◌, min}
use Rattle.std.specs.Prelude.{if◌then◌else◌, nat_lt}
use Rattle.std.proofs.lemmas.Bool.Decides.{nat_tests}
use Rattle.std.proofs.Math.Nat.{mul-le-mul_left}
use Rattle.te_model.specs.Counting.{sum_below, count_below}
use Rattle.te_model.specs.Apportion.{comes_before, is_among_first}
use Rattle.fault_rates.specs.Protection.{Protection, most_on_a_link, paths_left, is_among_least, sum_on_link, AreGuarded}
use Rattle.fault_rates.specs.Laws.{EvenGuards, GuardedGrantsSurvive}
use Rattle.te_model.proofs.Conditionals.{if_le}
use Rattle.te_model.proofs.Sums.{sum_below-same, sum_below-le, sum_below-add, sum_below-mul, sum_below-swap, sum_below-term}
use Rattle.te_model.proofs.Quotients.{below_greatest}
use Rattle.te_model.proofs.Counts.{count_below-same, count_below-none}
use Rattle.te_model.proofs.Ranks.{passes, threshold_from, count_by_threshold, is_among_first-passes, reach_bound}

-- the path holds a link that has failed
abbrev has_failed_link : ℕ → (ℕ → Bool) → (ℕ → ℕ → Bool) → ℕ → Bool
has_failed_link m failed holds i = nat_lt 0 (count_below m (λ e. failed e && holds i e))

one_if : (c : ℕ) → (if nat_lt 0 c then 1 else 0) ≤ c
one_if c = grind (arith, nat_tests)

held_by : (n q : ℕ) (b : Bool) (test : ℕ → Bool) → count_below n test ≤ q →
    sum_below n (λ i. if b && test i then 1 else 0) ≤ q * (if b then 1 else 0)
held_by n q true test few = omega (arith, few)
held_by n q false test few = omega (arith, count_below-none n (λ i. false) (λ k below. refl))

-- the failed links stand on no more paths than each of them at most
few_have_failed_links : (n m k q : ℕ) (failed : ℕ → Bool) (holds : ℕ → ℕ → Bool) →
    ((e : ℕ) → e < m → count_below n (λ i. holds i e) ≤ q) → count_below m failed ≤ k →
    count_below n (has_failed_link m failed holds) ≤ k * q
few_have_failed_links n m k q failed holds few within =
    let each = sum_below-le n (λ i. if nat_lt 0 (count_below m (λ e. failed e && holds i e)) then 1 else 0)
    (λ i. count_below m (λ e. failed e && holds i e)) (λ i below. one_if (count_below m (λ e. failed e && holds i e))) in
    let swapped = sum_below-swap n m (λ i e. if failed e && holds i e then 1 else 0) in
    let by_link = sum_below-le m (λ e. sum_below n (λ i. if failed e && holds i e then 1 else 0)) (λ e. q * (if failed e then 1 else 0))
    (λ e below. held_by n q (failed e) (λ i. holds i e) (few e below)) in
    let out = sum_below-mul m q (λ e. if failed e then 1 else 0) in
    omega (arith, each, swapped, by_link, out, mul-le-mul_left {m = count_below m failed} {n = k} q within)

-- a threshold of the least: those among them are not above it, and the others are not below it
record IsTop (n : ℕ) (key : ℕ → ℕ) (few top : ℕ) : Type 0 where
  pub least : (i : ℕ) → i < n → is_among_least n key few i ≡ true → key i ≤ top
  pub others : (i : ℕ) → i < n → is_among_least n key few i ≡ false → top ≤ key i
  pub count : count_below n (is_among_least n key few) ≡ few

mirrored : (bound x y j i : ℕ) → x < bound → y < bound →
    (nat_lt x y || (x == y && nat_lt j i)) ≡ (nat_lt (bound - y) (bound - x) || (bound - x == bound - y && nat_lt j i))
mirrored bound x y j i small small' = grind (arith, nat_tests)

least_is_first : (n : ℕ) (key : ℕ → ℕ) (bound few i : ℕ) → ((k : ℕ) → k < n → key k < bound) → i < n →
    is_among_least n key few i ≡ is_among_first n (λ j. bound - key j) few i
least_is_first n key bound few i small below =
    ap (λ c. nat_lt c few) (count_below-same n (λ j. nat_lt (key j) (key i) || (key j == key i && nat_lt j i))
    (λ j. comes_before (λ k. bound - key k) j i)
    (λ j j_below. mirrored bound (key j) (key i) j i (small j j_below) (small i below)))

top_of : (n : ℕ) (key : ℕ → ℕ) (few : ℕ) → few ≤ n → (top : ℕ) × IsTop n key few top
top_of n key few fits =
    let bound = suc (sum_below n key) in
    let small : (k : ℕ) → k < n → key k < bound = λ k below. omega (arith, sum_below-term n k key below) in
    let flipped = λ (j : ℕ). bound - key j in
    let none = reach_bound n flipped (suc bound) (λ k below. omega arith) in
    let found = threshold_from n flipped few (suc bound) fits (omega (arith, none)) in
    let t = found.0 in
    let is = λ (i : ℕ) (below : i < n). least_is_first n key bound few i small below ∙ is_among_first-passes n flipped few t found.1 i below in (
      bound - t,
      record {
        least = λ i below yes. (let e : passes n flipped few t i ≡ true = sym (is i below) ∙ yes in let s = small i below in grind (arith, nat_tests));
        others = λ i below no. (let e : passes n flipped few t i ≡ false = sym (is i below) ∙ no in let s = small i below in grind (arith, nat_tests));
        count = count_below-same n (is_among_least n key few) (is_among_first n flipped few) (λ k below. least_is_first n key bound few k small below)
            ∙ count_by_threshold n flipped few t found.1;
      },
    )

exchange : (l s : Bool) (x top : ℕ) → (l ≡ true → x ≤ top) → (l ≡ false → top ≤ x) →
    (if l then x else 0) + top * (if s then 1 else 0) ≤ (if s then x else 0) + top * (if l then 1 else 0)
exchange true true x top low high = omega arith
exchange true false x top low high = omega (arith, low refl)
exchange false true x top low high = omega (arith, high refl)
exchange false false x top low high = omega arith

-- any places, at least as many, have at least the sum of the least
pub least_is_least : (n : ℕ) (key : ℕ → ℕ) (few : ℕ) (some : ℕ → Bool) → few ≤ n → few ≤ count_below n some →
    sum_below n (λ i. if is_among_least n key few i then key i else 0) ≤ sum_below n (λ i. if some i then key i else 0)
least_is_least n key few some fits enough =
    let found = top_of n key few fits in
    let top = found.0 in
    let l = is_among_least n key few in
    let each = sum_below-le n (λ i. (if l i then key i else 0) + top * (if some i then 1 else 0)) (λ i. (if some i then key i else 0) + top * (if l i then 1 else 0))
    (λ i below. exchange (l i) (some i) (key i) top (found.1.least i below) (found.1.others i below)) in
    let left = sum_below-add n (λ i. if l i then key i else 0) (λ i. top * (if some i then 1 else 0)) in
    let right = sum_below-add n (λ i. if some i then key i else 0) (λ i. top * (if l i then 1 else 0)) in
    let left' = sum_below-mul n top (λ i. if some i then 1 else 0) in
    let right' = sum_below-mul n top (λ i. if l i then 1 else 0) in
    let counted : top * count_below n l ≡ top * few = ap (λ c. top * c) found.1.count in
    omega (arith, each, left, right, left', right', counted, mul-le-mul_left {m = few} {n = count_below n some} top enough)

picked : (b : Bool) (x a : ℕ) → x ≡ a → (if b then x else 0) ≡ a * (if b then 1 else 0)
picked true x a e = omega (arith, e)
picked false x a e = omega arith

-- where all allocations of a pair are one number, its guard is that number for each path that is left
pub even_guard : EvenGuards
even_guard x p a same =
    let n = x.paths p in
    let l = is_among_least n (x.allocation p) (paths_left x p) in
    let found = top_of n (x.allocation p) (paths_left x p) (omega arith) in
    let each = sum_below-same n (λ i. if l i then x.allocation p i else 0) (λ i. a * (if l i then 1 else 0))
    (λ i below. picked (l i) (x.allocation p i) a (same i below)) in
    let out = sum_below-mul n a (λ i. if l i then 1 else 0) in
    let counted : a * count_below n l ≡ a * paths_left x p = ap (λ c. a * c) found.1.count in
    omega (arith, each, out, counted)

-- what is left of the places that are not among some
all_or_none : (n : ℕ) (hit : ℕ → Bool) → count_below n hit + count_below n (λ i. not (hit i)) ≡ n
all_or_none zero hit = refl
all_or_none (suc n) hit = omega (arith, all_or_none n hit, one_of_two (hit n))
  where
    one_of_two : (b : Bool) → (if b then 1 else 0) + (if not b then 1 else 0) ≡ suc zero
    one_of_two true = refl
    one_of_two false = refl

-- the amount is filled_amount up from the first place on
abbrev filled_amount : (ℕ → ℕ) → ℕ → ℕ → ℕ
filled_amount room amount i = min (room i) (amount - sum_below i room)

filled_amount_sum : (n : ℕ) (room : ℕ → ℕ) (amount : ℕ) → sum_below n (filled_amount room amount) ≡ min (sum_below n room) amount
filled_amount_sum zero room amount = omega arith
filled_amount_sum (suc n) room amount = omega (arith, filled_amount_sum n room amount)

-- what is left of pair p where these links have failed
abbrev room_left : Protection → (ℕ → Bool) → ℕ → ℕ → ℕ
room_left x failed p i = if not (has_failed_link x.links failed (x.holds p) i) then x.allocation p i else 0

enough_room : (x : Protection) → AreGuarded x → (failed : ℕ → Bool) → count_below x.links failed ≤ x.failures → (p : ℕ) → p < x.pairs →
    x.grant p ≤ sum_below (x.paths p) (room_left x failed p)
enough_room x holds failed few p below =
    let n = x.paths p in
    let hit = has_failed_link x.links failed (x.holds p) in
    let lost = few_have_failed_links n x.links x.failures (most_on_a_link x p) failed (x.holds p)
    (λ e e_in. below_greatest x.links (λ h. count_below n (λ i. x.holds p i h)) e e_in) few in
    let stand = all_or_none n hit in
    let least = least_is_least n (x.allocation p) (paths_left x p) (λ i. not (hit i)) (omega arith) (omega (arith, lost, stand)) in
    omega (arith, least, holds.guarded p below)

failed_link_is_found : (m : ℕ) (failed : ℕ → Bool) (holds : ℕ → ℕ → Bool) (i e : ℕ) → e < m → failed e ≡ true → holds i e ≡ true → has_failed_link m failed holds i ≡ true
failed_link_is_found m failed holds i e below failed_e held =
    let one : (if failed e && holds i e then 1 else 0) ≡ suc zero = rw (failed_e, held) refl in
    let counted = sum_below-term m e (λ h. if failed h && holds i h then 1 else 0) below in
    let some : 0 < count_below m (λ h. failed h && holds i h) = omega (arith, one, counted) in
    grind (arith, nat_tests)

no_room : (hit : Bool) (a : ℕ) → hit ≡ true → (if not hit then a else 0) ≡ 0
no_room true a e = refl
no_room false a e = cc

room_within : (hit : Bool) (a : ℕ) → (if not hit then a else 0) ≤ a
room_within true a = omega arith
room_within false a = omega arith

abbrev amount_of : Protection → (ℕ → Bool) → ℕ → ℕ → ℕ
amount_of x failed p = filled_amount (room_left x failed p) (x.grant p)

amount_within : (x : Protection) (failed : ℕ → Bool) (p i : ℕ) → amount_of x failed p i ≤ x.allocation p i
amount_within x failed p i = omega (arith, room_within (has_failed_link x.links failed (x.holds p) i) (x.allocation p i))

amounts_less : (x : Protection) (failed : ℕ → Bool) (e : ℕ) → sum_on_link x (amount_of x failed) e ≤ sum_on_link x x.allocation e
amounts_less x failed e =
    sum_below-le x.pairs (λ p. sum_below (x.paths p) (λ i. if x.holds p i e then amount_of x failed p i else 0))
    (λ p. sum_below (x.paths p) (λ i. if x.holds p i e then x.allocation p i else 0))
    (λ p below. sum_below-le (x.paths p) (λ i. if x.holds p i e then amount_of x failed p i else 0) (λ i. if x.holds p i e then x.allocation p i else 0)
    (λ i i_in. if_le (x.holds p i e) (amount_of x failed p i) (x.allocation p i) (amount_within x failed p i)))

pub survives : GuardedGrantsSurvive
survives x holds failed few = (
  amount_of x failed,
  record {
    avoids = λ p i e p_in i_in e_in failed_e held.
        let none = no_room (has_failed_link x.links failed (x.holds p) i) (x.allocation p i) (failed_link_is_found x.links failed (x.holds p) i e e_in failed_e held) in
        omega (arith, none);
    within = λ p i p_in i_in. amount_within x failed p i;
    whole = λ p p_in. omega (arith, filled_amount_sum (x.paths p) (room_left x failed p) (x.grant p), enough_room x holds failed few p p_in);
    fits = λ e e_in. omega (arith, amounts_less x failed e, holds.fits e e_in);
  },
)
