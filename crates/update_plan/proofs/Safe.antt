-- Laws of safe updates.
use Rattle.std.proofs.Common.{◌↔◌, ◌≡◌, ℕ, suc, ◌+◌, ◌-◌, ◌*◌, ◌<◌, ◌≤◌, Bool, true, false, arith, ap, ◌∙◌, inl, inr}
use Rattle.std.specs.Prelude.{if◌then◌else◌, nat_lt, max}
use Rattle.std.proofs.lemmas.Bool.{cases_lt}
use Rattle.std.proofs.lemmas.Bool.Decides.{nat_tests}
use Rattle.std.proofs.Math.Nat.{mul-le-mul_left, le_of_mul-le-mul_left}
use Rattle.te_model.specs.declared.units.TheConstants.{SHARE_UNIT}
use Rattle.update_plan.specs.Update.{Update, stage_weight, load_by, mixed_weight, IsSafeOn}
use Rattle.update_plan.specs.Laws.{FitsStage, growth_on, decline_on, FitsEnds, HasSteps, SafeByStages, SafeByEnds, SafeForMore, SafeWithSlack, SafeByQuotients}
use Rattle.te_model.proofs.Sums.{sum_below-same, sum_below-le, sum_below-add, sum_below-mul}

term-le : (held : Bool) (d v w : ℕ) → v ≤ w → (if held then d * v else 0) ≤ (if held then d * w else 0)
term-le true d v w h = mul-le-mul_left d h
term-le false d v w h = omega arith

term-same : (held : Bool) (d v w : ℕ) → v ≡ w → (if held then d * v else 0) ≡ (if held then d * w else 0)
term-same held d v w e = ap (λ t. if held then d * t else 0) e

-- greater weights are a greater load
load-le : (x : Update) (v w : ℕ → ℕ) (e : ℕ) → ((k : ℕ) → v k ≤ w k) → load_by x v e ≤ load_by x w e
load-le x v w e each =
    sum_below-le x.paths (λ k. if x.holds k e then x.demand k * v k else 0) (λ k. if x.holds k e then x.demand k * w k else 0)
    (λ k below. term-le (x.holds k e) (x.demand k) (v k) (w k) (each k))

load-same : (x : Update) (v w : ℕ → ℕ) (e : ℕ) → ((k : ℕ) → v k ≡ w k) → load_by x v e ≡ load_by x w e
load-same x v w e each =
    sum_below-same x.paths (λ k. if x.holds k e then x.demand k * v k else 0) (λ k. if x.holds k e then x.demand k * w k else 0)
    (λ k below. term-same (x.holds k e) (x.demand k) (v k) (w k) (each k))

pick_greater : (a b : ℕ) → (if nat_lt a b then b else a) ≡ max a b
pick_greater a b = grind (arith, nat_tests)

either_below : (c : Bool) (a b : ℕ) → (if c then b else a) ≤ max a b
either_below true a b = omega arith
either_below false a b = omega arith

-- on one link: one test for each stage
pub on_stages : (x : Update) (K e : ℕ) → IsSafeOn x K e ↔ ((j : ℕ) → j < K → FitsStage x K j e)
on_stages x K e = (to, from)
  where
    to : IsSafeOn x K e → (j : ℕ) → j < K → FitsStage x K j e
    to safe j j_in =
        let choice = λ (k : ℕ). nat_lt (stage_weight x K j k) (stage_weight x K (suc j) k) in
        let same = load-same x (mixed_weight x K j choice) (λ k. max (stage_weight x K j k) (stage_weight x K (suc j) k)) e
        (λ k. pick_greater (stage_weight x K j k) (stage_weight x K (suc j) k)) in
        omega (arith, same, safe j j_in choice)

    from : ((j : ℕ) → j < K → FitsStage x K j e) → IsSafeOn x K e
    from tests j j_in choice =
        let less = load-le x (mixed_weight x K j choice) (λ k. max (stage_weight x K j k) (stage_weight x K (suc j) k)) e
        (λ k. either_below (choice k) (stage_weight x K j k) (stage_weight x K (suc j) k)) in
        omega (arith, less, tests j j_in)

pub by_stages : SafeByStages
by_stages x K = (
  λ safe j e j_in e_in. (on_stages x K e).0 (safe e e_in) j j_in,
  λ tests e e_in. (on_stages x K e).1 (λ j j_in. tests j e j_in e_in),
)

term-parts : (held : Bool) (d p q b a u : ℕ) →
    (if held then d * (p * b + q * a + u) else 0)
    ≡ p * (if held then d * b else 0) + q * (if held then d * a else 0) + (if held then d * u else 0)
term-parts true d p q b a u = omega arith
term-parts false d p q b a u = omega arith

-- the load of sums of weights
load-parts : (x : Update) (p q : ℕ) (b a u : ℕ → ℕ) (e : ℕ) →
    load_by x (λ k. p * b k + q * a k + u k) e ≡ p * load_by x b e + q * load_by x a e + load_by x u e
load-parts x p q b a u e =
    let n = x.paths in
    let on = λ (w : ℕ → ℕ) (k : ℕ). if x.holds k e then x.demand k * w k else 0 in
    let split = sum_below-same n (on (λ k. p * b k + q * a k + u k)) (λ k. p * on b k + q * on a k + on u k)
    (λ k below. term-parts (x.holds k e) (x.demand k) p q (b k) (a k) (u k)) in
    omega (
      arith,
      split,
      sum_below-add n (λ k. p * on b k + q * on a k) (on u),
      sum_below-add n (λ k. p * on b k) (λ k. q * on a k),
      sum_below-mul n p (on b),
      sum_below-mul n q (on a),
    )

-- what grows and what was before is what shrinks and what comes after
balance : (x : Update) (e : ℕ) → load_by x x.before e + growth_on x e ≡ load_by x x.after e + decline_on x e
balance x e =
    let left = load-parts x 1 0 x.before x.after (λ k. x.after k - x.before k) e in
    let right = load-parts x 0 1 x.before x.after (λ k. x.before k - x.after k) e in
    let same = load-same x (λ k. 1 * x.before k + 0 * x.after k + (x.after k - x.before k)) (λ k. 0 * x.before k + 1 * x.after k + (x.before k - x.after k)) e
    (λ k. omega arith) in
    omega (arith, left, right, same)

greater_weight : (i j b a : ℕ) → max ((i + 1) * b + j * a) (i * b + suc j * a) ≡ (i + 1) * b + j * a + (a - b)
greater_weight i j b a = omega arith

-- the load of a stage, of which i + j + 1 are made
stage_load : (x : Update) (K i j e : ℕ) → K ≡ i + j + 1 →
    load_by x (λ k. max (stage_weight x K j k) (stage_weight x K (suc j) k)) e ≡ (i + 1) * load_by x x.before e + j * load_by x x.after e + growth_on x e
stage_load x K i j e whole =
    let here : K - j ≡ i + 1 = omega arith in
    let next : K - suc j ≡ i = omega arith in
    load-same x (λ k. max (stage_weight x K j k) (stage_weight x K (suc j) k)) (λ k. (i + 1) * x.before k + j * x.after k + (x.after k - x.before k)) e
    (λ k. rw (here, next) (greater_weight i j (x.before k) (x.after k)))
    ∙ load-parts x (i + 1) j x.before x.after (λ k. x.after k - x.before k) e

-- the whole from two of its parts
times_whole : (K i j x : ℕ) → K ≡ i + j + 1 → K * x ≡ i * x + j * x + x
times_whole K i j x e = ap (λ t. t * x) e ∙ omega arith

-- the loads of the first and the last stage are those of the ends
stages_to_ends : (x : Update) (K e : ℕ) → 1 ≤ K → ((j : ℕ) → j < K → FitsStage x K j e) → FitsEnds x K e
stages_to_ends x K e some tests =
    let i = K - 1 in
    let whole : K ≡ i + 0 + 1 = omega arith in
    let whole' : K ≡ 0 + i + 1 = omega arith in
    let first = stage_load x K i 0 e whole in
    let last = stage_load x K 0 i e whole' in
    let B = load_by x x.before e in
    let A = load_by x x.after e in
    record {
      first = omega (arith, first, tests 0 (omega arith), times_whole K i 0 B whole);
      last = omega (arith, last, tests i (omega arith), times_whole K 0 i A whole', balance x e);
    }

-- no stage between has a greater load than both ends
between : (i j A B U V top : ℕ) → B + U ≡ A + V → i * B + j * B + B + U ≤ top → i * A + j * A + A + V ≤ top →
    (i + 1) * B + j * A + U ≤ top
between i j A B U V top same first last =
    elim (cases_lt A B) [
      | inl lt ↦ omega (arith, first, mul-le-mul_left {m = A} {n = B} j (omega arith))
      | inr ge ↦ omega (arith, last, same, mul-le-mul_left {m = B} {n = A} i ge)
    ]

ends_to_stages : (x : Update) (K e : ℕ) → FitsEnds x K e → (j : ℕ) → j < K → FitsStage x K j e
ends_to_stages x K e fits j j_in =
    let i = K - suc j in
    let whole : K ≡ i + j + 1 = omega arith in
    let here = stage_load x K i j e whole in
    let B = load_by x x.before e in
    let A = load_by x x.after e in
    let first : i * B + j * B + B + growth_on x e ≤ K * SHARE_UNIT * x.capacity e = omega (arith, fits.first, times_whole K i j B whole) in
    let last : i * A + j * A + A + decline_on x e ≤ K * SHARE_UNIT * x.capacity e = omega (arith, fits.last, times_whole K i j A whole) in
    omega (arith, here, between i j A B (growth_on x e) (decline_on x e) (K * SHARE_UNIT * x.capacity e) (balance x e) first last)

-- on one link: the first and the last stage decide
pub on_ends : (x : Update) (K e : ℕ) → 1 ≤ K → IsSafeOn x K e ↔ FitsEnds x K e
on_ends x K e some = (
  λ safe. stages_to_ends x K e some ((on_stages x K e).0 safe),
  λ ends. (on_stages x K e).1 (ends_to_stages x K e ends),
)

pub by_ends : SafeByEnds
by_ends x K some = (
  λ safe e e_in. (on_ends x K e some).0 (safe e e_in),
  λ ends e e_in. (on_ends x K e some).1 (ends e e_in),
)

-- what fits K times fits more times
grows : (K L X u c : ℕ) → 1 ≤ K → K ≤ L → K * X + u ≤ K * SHARE_UNIT * c → L * X + u ≤ L * SHARE_UNIT * c
grows K L X u c some more fits =
    let once : X ≤ SHARE_UNIT * c = le_of_mul-le-mul_left {m = X} {n = SHARE_UNIT * c} {k = K} (omega arith) (omega arith) in
    let d = L - K in
    let apart : L ≡ K + d = omega arith in
    let xs : L * X ≡ K * X + d * X = ap (λ t. t * X) apart ∙ omega arith in
    let cs : L * SHARE_UNIT * c ≡ K * SHARE_UNIT * c + d * (SHARE_UNIT * c) = ap (λ t. t * SHARE_UNIT * c) apart ∙ omega arith in
    omega (arith, fits, xs, cs, mul-le-mul_left {m = X} {n = SHARE_UNIT * c} d once)

pub for_more : SafeForMore
for_more x K L some more safe =
    let ends = (by_ends x K some).0 safe in
    (by_ends x L (omega arith)).1 (λ e e_in.
    let fits = ends e e_in in
    record {
      first = grows K L (load_by x x.before e) (growth_on x e) (x.capacity e) some more fits.first;
      last = grows K L (load_by x x.after e) (decline_on x e) (x.capacity e) some more fits.last;
    })

-- what grows is at most what comes after, and what shrinks at most what was before
slack : (k B A u top : ℕ) → u ≤ A → (k + 1) * B ≤ top → (k + 1) * A ≤ top → k * B + u ≤ top
slack k B A u top small before after =
    elim (cases_lt A B) [
      | inl lt ↦ omega (arith, before)
      | inr ge ↦ omega (arith, after, mul-le-mul_left {m = B} {n = A} k ge)
    ]

pub with_slack : SafeWithSlack
with_slack x k some free =
    (by_ends x k some).1 (λ e e_in.
    let B = load_by x x.before e in
    let A = load_by x x.after e in
    let grown = load-le x (λ p. x.after p - x.before p) x.after e (λ p. omega arith) in
    let lost = load-le x (λ p. x.before p - x.after p) x.before e (λ p. omega arith) in
    record {
      first = slack k B A (growth_on x e) (k * SHARE_UNIT * x.capacity e) grown (free.before e e_in) (free.after e e_in);
      last = slack k A B (decline_on x e) (k * SHARE_UNIT * x.capacity e) lost (free.after e e_in) (free.before e e_in);
    })

once_fits : (K X u c : ℕ) → 1 ≤ K → K * X + u ≤ K * SHARE_UNIT * c → X ≤ SHARE_UNIT * c
once_fits K X u c some fits = le_of_mul-le-mul_left {m = X} {n = SHARE_UNIT * c} {k = K} (omega arith) (omega arith)

room : (K X c : ℕ) → X ≤ SHARE_UNIT * c → K * SHARE_UNIT * c ≡ K * X + K * (SHARE_UNIT * c - X)
room K X c fits =
    let free = SHARE_UNIT * c - X in
    let whole : SHARE_UNIT * c ≡ X + free = omega arith in
    let scaled : K * (SHARE_UNIT * c) ≡ K * (X + free) = ap (λ t. K * t) whole in
    omega (arith, scaled)

-- on one link: the least number of steps is a quotient
pub on_quotients : (x : Update) (K e : ℕ) → 1 ≤ K → IsSafeOn x K e ↔ HasSteps x K e
on_quotients x K e some = (to, from)
  where
    to : IsSafeOn x K e → HasSteps x K e
    to safe =
        let fits = (on_ends x K e some).0 safe in
        let B = load_by x x.before e in
        let A = load_by x x.after e in
        let c = x.capacity e in
        let before = once_fits K B (growth_on x e) c some fits.first in
        let after = once_fits K A (decline_on x e) c some fits.last in
        record {
          before_fits = before;
          after_fits = after;
          growth_fits = omega (arith, fits.first, room K B c before);
          decline_fits = omega (arith, fits.last, room K A c after);
        }

    from : HasSteps x K e → IsSafeOn x K e
    from has = (on_ends x K e some).1 (record {
      first = omega (arith, has.growth_fits, room K (load_by x x.before e) (x.capacity e) has.before_fits);
      last = omega (arith, has.decline_fits, room K (load_by x x.after e) (x.capacity e) has.after_fits);
    })

pub by_quotients : SafeByQuotients
by_quotients x K some = (
  λ safe e e_in. (on_quotients x K e some).0 (safe e e_in),
  λ steps e e_in. (on_quotients x K e some).1 (steps e e_in),
)
