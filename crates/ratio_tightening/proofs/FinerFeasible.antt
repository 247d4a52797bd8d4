-- The finer form of a block is feasible where the block is, and needs no more.
use Rattle.std.proofs.Common.{◌≡◌, ◌∙◌, ℕ, ◌-◌, ◌+◌, ◌*◌, ◌^◌, ◌<◌, ◌≤◌, ◌⊎◌, Bool, true, false, ◌&&◌, List, [], ◌∷◌, length, map, nat_le, nat_lt, ◌==◌, ap, arith, get_or, inl, inr, refl, slice_index, subst, sym}
use Rattle.std.specs.Prelude.{IsTrue, sum_by}
use Rattle.std.proofs.lemmas.Bool.{and_from, and_parts, eqb-true, le-leb, leb-true, lt-ltb, ltb-true, cases_lt, false≢true}
use Rattle.std.proofs.lemmas.List.{get_or_past}
use Rattle.std.proofs.Math.Nat.{mul-le-mul_left, mul-le-mul_right}
use Rattle.std.proofs.lemmas.Nat.{mul-le}
use Rattle.te_model.specs.declared.certificate.Block.{Block}
use Rattle.te_model.specs.declared.certificate.Head.{Head}
use Rattle.te_model.specs.declared.certificate.Row.{Row}
use Rattle.te_model.specs.declared.demand.DemandSet.{DemandSet}
use Rattle.te_model.specs.declared.demand.DemandSet.TheVariants.{All as AllMatrices, Margin, Box}
use Rattle.te_model.specs.declared.network.Network.{Network}
use Rattle.te_model.specs.declared.route.PathShare.{PathShare}
use Rattle.te_model.specs.declared.units.TheConstants.{RATIO_UNIT, SHARE_UNIT}
use Rattle.te_model.specs.Certificate.{minus_of, plus_of, potential, row_of, weight_of}
use Rattle.te_model.specs.Demand.{lower_of, upper_of}
use Rattle.te_model.specs.Division.{quotient_up}
use Rattle.te_model.specs.Feasible.{IsFeasible}
use Rattle.te_model.specs.Inequalities.{capacity_by, covers_share, keeps_bounds, weigh}
use Rattle.te_model.specs.Network.{capacity_of, head_of, is_well_formed, link_count, node_count, tail_of}
use Rattle.te_model.specs.Path.{chains, destination_of, is_distinct, no_routes, nodes_visited, routes_at, share, source_of}
use Rattle.te_model.proofs.Quotients.{quotient_up-enough, quotient_up-least}
use Rattle.te_model.proofs.Sizes.{unit_positive}
use Rattle.te_model.proofs.Sums.{sum_below-add, sum_below-le, sum_below-mul, sum_below-same}
use Rattle.te_model.proofs.WellFormed.{few_nodes, links_join}
use Rattle.routing.proofs.Splits.{share-le, splits_of}
use Rattle.shortest_path.proofs.PathLengths.{path_short}
use Rattle.best_blocks.specs.Conditions.{IsRoutingWithin, IsSetWithin}
use Rattle.best_blocks.specs.Need.{need_of}
use Rattle.ratio_certificate.specs.Polished.{IsCoarse}
use Rattle.ratio_tightening.specs.Finer.{has_small_a, twice_row, twice_within, with_twice_scale, IsDoubled, IsFinerForm, IsTwiceExcess}
use Rattle.ratio_tightening.proofs.FinerNumbers.{twice_at}

-- what is said of twice the potentials of a row
potential_twice : (rows : List Row) (i v : ℕ) → slice_index (row_of (map twice_row rows) i).potential v ≡ twice_within (slice_index (row_of rows i).potential v)
potential_twice [] i v =
    let none : slice_index [] v ≡ 0 = get_or_past [] v 0 (omega arith) in
    omega (arith, none)
potential_twice (r ∷ rs) i v = at (r.source == i) refl (potential_twice rs i v)
  where
    at : (here : Bool) → (r.source == i) ≡ here → slice_index (row_of (map twice_row rs) i).potential v ≡ twice_within (slice_index (row_of rs i).potential v) →
        slice_index (row_of (map twice_row (r ∷ rs)) i).potential v ≡ twice_within (slice_index (row_of (r ∷ rs) i).potential v)
    at true is later = rw is (twice_at r.potential v)
    at false is later = rw is later

-- along links the potential rises by their weights at most
potential_along : (net : Network) (b : Block) (i s t : ℕ) (links : List ℕ) →
    ((h : ℕ) → h < link_count net → potential b i (head_of net h) ≤ potential b i (tail_of net h) + weight_of b h) →
    ((h : ℕ) → weight_of b h ≤ 2 ^ 20) → chains net s t links ≡ true → potential b i t ≤ potential b i s + length links * 2 ^ 20
potential_along net b i s t [] rises small chain =
    let same : s ≡ t = eqb-true s t chain in
    subst (λ v. potential b i v ≤ potential b i s + 0 * 2 ^ 20) same (omega arith)
potential_along net b i s t (h ∷ hs) rises small chain =
    let outer = and_parts (nat_lt h (link_count net) && tail_of net h == s) (chains net (head_of net h) t hs) chain in
    let inner = and_parts (nat_lt h (link_count net)) (tail_of net h == s) outer.0 in
    let rest = potential_along net b i (head_of net h) t hs rises small outer.1 in
    let up = rises h (ltb-true h (link_count net) inner.0) in
    let few = small h in
    let tail : potential b i (tail_of net h) ≡ potential b i s = ap (potential b i) (eqb-true (tail_of net h) s inner.1) in
    omega (arith, rest, up, few, tail)

some_path : (paths : List PathShare) → sum_by (λ (s : PathShare). s.weight) paths ≡ 1000000 → 0 < length paths
some_path [] whole = absurd (omega (arith, whole))
some_path (p ∷ ps) whole = omega arith

few_links : (n k : ℕ) → n ≤ 128 → k < n → k * 2 ^ 20 ≤ 2 ^ 27
few_links n k few below = omega (arith, few, below)

-- the weights of a coarse block, also where there is none
pub coarse_weight : (b : Block) → IsCoarse b.weights b.b → (h : ℕ) → weight_of b h < 2 ^ 20
coarse_weight b coarse h = elim (cases_lt h (length b.weights)) [
  | inl lt ↦ coarse.0 h lt
  | inr ge ↦ let past : weight_of b h ≡ 0 = get_or_past b.weights h 0 ge in omega (arith, past)
]

-- so the potentials of pairs are small
pair_potential : (head : Head) (b : Block) → is_well_formed head.network ≡ true → IsRoutingWithin head.network head.routes → IsCoarse b.weights b.b → IsFeasible head b →
    (p : ℕ) → p < length head.routes → potential b (source_of head.routes p) (destination_of head.routes p) ≤ 2 ^ 27
pair_potential head b formed within coarse feasible p below =
    let net = head.network in
    let s = source_of head.routes p in
    let t = destination_of head.routes p in
    let split = within.splits p no_routes below in
    let none : PathShare = record { weight = 0; links = [] } in
    let some = some_path (routes_at head.routes p).paths split.whole in
    let path = split.paths 0 none some in
    let links = (get_or (routes_at head.routes p).paths 0 none).links in
    let source = (within.nodes p below).0 in
    let short = path_short net s t links (links_join net formed) source path in
    let chain = (and_parts (chains net s t links) (is_distinct (nodes_visited net s links)) path).0 in
    let along = potential_along net b s s t links (λ h in'. feasible.rises s h source in') (λ h. let light = coarse_weight b coarse h in omega (arith, light)) chain in
    let starts = feasible.starts s source in
    let bound = few_links (node_count net) (length links) (few_nodes net formed) short in
    omega (arith, along, starts, bound)

-- no lower bound is above the upper one
lower_within : (pairs : ℕ) (set : DemandSet) → IsSetWithin pairs set → (p : ℕ) → p < pairs → lower_of set p ≤ upper_of set p
lower_within pairs AllMatrices within p below = omega arith
lower_within pairs (Margin num den base) within p below =
    let last = and_parts (nat_le 1 num && nat_le num 1000 && nat_le 1 den && nat_le den 1000) (nat_le den num) within.0 in
    let less = leb-true den num last.1 in
    mul-le-mul_left (slice_index base.demand p) (mul-le den den num num less less)
lower_within pairs (Box lower upper) within p below = (within.each p below).0

-- twice what is added beyond what is taken back, and the other way round, against twice both
balance_at : (lower upper plus minus more less : ℕ) → lower ≤ upper → more ≤ 2 * (plus - minus) → 2 * (minus - plus) ≤ less →
    upper * more + 2 * (lower * minus) ≤ 2 * (upper * plus) + lower * less
balance_at lower upper plus minus more less ordered small great = elim (cases_lt plus minus) [
  | inl lt ↦
      let none : more ≡ 0 = omega (arith, small, lt) in
      let extra : 2 * minus ≤ less + 2 * plus = omega (arith, great, lt) in
      let by_lower : lower * (2 * minus) ≤ lower * (less + 2 * plus) = mul-le-mul_left lower extra in
      let by_plus : lower * plus ≤ upper * plus = mul-le-mul_right plus ordered in
      let zero_is : upper * more ≡ 0 = rw none (omega arith) in
      omega (arith, by_lower, by_plus, zero_is)
  | inr ge ↦
      let extra : more + 2 * minus ≤ 2 * plus = omega (arith, small, ge) in
      let by_upper : upper * (more + 2 * minus) ≤ upper * (2 * plus) = mul-le-mul_left upper extra in
      let by_minus : lower * minus ≤ upper * minus = mul-le-mul_right minus ordered in
      omega (arith, by_upper, by_minus)
]

-- and over n pairs
balance_kept : (n : ℕ) (lower upper plus minus more less : ℕ → ℕ) → ((p : ℕ) → p < n → lower p ≤ upper p) →
    ((p : ℕ) → p < n → more p ≤ 2 * (plus p - minus p)) → ((p : ℕ) → p < n → 2 * (minus p - plus p) ≤ less p) →
    nat_le (weigh n upper plus) (weigh n lower minus) ≡ true → nat_le (weigh n upper more) (weigh n lower less) ≡ true
balance_kept n lower upper plus minus more less ordered small great is =
    let each = sum_below-le n (λ p. upper p * more p + 2 * (lower p * minus p)) (λ p. 2 * (upper p * plus p) + lower p * less p)
    (λ p below. balance_at (lower p) (upper p) (plus p) (minus p) (more p) (less p) (ordered p below) (small p below) (great p below))
    in
    let left = sum_below-add n (λ p. upper p * more p) (λ p. 2 * (lower p * minus p)) in
    let right = sum_below-add n (λ p. 2 * (upper p * plus p)) (λ p. lower p * less p) in
    let twice_lower = sum_below-mul n 2 (λ p. lower p * minus p) in
    let twice_upper = sum_below-mul n 2 (λ p. upper p * plus p) in
    let between = leb-true (weigh n upper plus) (weigh n lower minus) is in
    le-leb (weigh n upper more) (weigh n lower less) (omega (arith, each, left, right, twice_lower, twice_upper, between))

-- the share of one pair is covered by twice the numbers: with v for the potential, and more and less for what is added and taken back
covers_at : (s a b v plus minus more less : ℕ) → s * b + a * minus ≤ a * (v + plus) → s ≤ 1000000 → b ≤ 2 ^ 35 → less ≤ 2 * (minus - plus) →
    (2 * (plus - minus) ≤ more) ⊎ ((2 ^ 36 ≤ more) × (1000000 ≤ a)) → (minus < plus → less ≡ 0) → s * (2 * b) + a * less ≤ a * (2 * v + more)
covers_at s a b v plus minus more less covers light room small (inl enough) either =
    let extra : less + 2 * plus ≤ more + 2 * minus = omega (arith, small, enough) in
    let by_a : a * (less + 2 * plus) ≤ a * (more + 2 * minus) = mul-le-mul_left a extra in
    omega (arith, covers, by_a)
covers_at s a b v plus minus more less covers light room small (inr (great, large)) either = elim (cases_lt minus plus) [
  | inl lt ↦
      let none = either lt in
      let nothing : a * less ≡ 0 = rw none (omega arith) in
      let one : s * (2 * b) ≤ 1000000 * 2 ^ 36 = mul-le s (2 * b) 1000000 (2 ^ 36) light (omega (arith, room)) in
      let two : 1000000 * 2 ^ 36 ≤ a * more = mul-le 1000000 (2 ^ 36) a more large great in
      omega (arith, nothing, one, two)
  | inr ge ↦
      let extra : less + 2 * plus ≤ more + 2 * minus = omega (arith, small, ge) in
      let by_a : a * (less + 2 * plus) ≤ a * (more + 2 * minus) = mul-le-mul_left a extra in
      omega (arith, covers, by_a)
]

-- what is read of twice the excess, also where there is none
excess_at : (xs ys new : List ℕ) → length ys ≡ length xs → IsTwiceExcess xs ys new → (p : ℕ) → slice_index new p ≡ twice_within (slice_index xs p - slice_index ys p)
excess_at xs ys new same is p = elim (cases_lt p (length xs)) [
  | inl lt ↦ is.each p lt
  | inr ge ↦
      let count = is.count in
      let x : slice_index xs p ≡ 0 = get_or_past xs p 0 ge in
      let z : slice_index new p ≡ 0 = get_or_past new p 0 (omega (arith, ge, count)) in
      omega (arith, x, z)
]

-- what is taken back beyond what is added is no more than the potential
taken_small : (s a b v plus minus : ℕ) → s * b + a * minus ≤ a * (v + plus) → 1 ≤ a → minus - plus ≤ v
taken_small s a b v plus minus covers some = elim (cases_lt (v + plus) minus) [
  | inl lt ↦
      let more : a * (v + plus + 1) ≤ a * minus = mul-le-mul_left a (omega (arith, lt)) in
      absurd (omega (arith, covers, more, some))
  | inr ge ↦ omega (arith, ge)
]

module _ (head : Head) (old new : Block) (formed : is_well_formed head.network ≡ true) (within : IsRoutingWithin head.network head.routes)
    (set : IsSetWithin (length head.routes) head.set) (same : length old.minus ≡ length old.plus) (coarse : IsCoarse old.weights old.b)
    (large : has_small_a old ≡ false) (is : IsDoubled old new) (feasible : IsFeasible head old) where
  potential_is : (i v : ℕ) → potential new i v ≡ twice_within (potential old i v)
  potential_is i v = ap (λ rs. slice_index (row_of rs i).potential v) is.rows_are ∙ potential_twice old.rows i v

  weight_is : (h : ℕ) → weight_of new h ≡ twice_within (weight_of old h)
  weight_is h = ap (λ ws. slice_index ws h) is.weights_are ∙ twice_at old.weights h

  plus_is : (p : ℕ) → plus_of new p ≡ twice_within (plus_of old p - minus_of old p)
  plus_is p = excess_at old.plus old.minus new.plus same is.plus_is p

  minus_is : (p : ℕ) → minus_of new p ≡ twice_within (minus_of old p - plus_of old p)
  minus_is p = excess_at old.minus old.plus new.minus (sym same) is.minus_is p

  covers_old : (p : ℕ) → p < length head.routes →
      share head.routes p old.link * old.b + old.a * minus_of old p ≤ old.a * (potential old (source_of head.routes p) (destination_of head.routes p) + plus_of old p)
  covers_old p below = leb-true _ _ (feasible.covers p below)

  -- where something is added, a is one million or more
  a_large : (p : ℕ) → p < length old.plus → 1000000 ≤ old.a
  a_large p below = elim (cases_lt old.a 1000000) [
    | inl lt ↦
        let contrary : has_small_a old ≡ true = and_from (nat_lt 0 (length old.plus)) (nat_lt old.a SHARE_UNIT) (lt-ltb 0 (length old.plus) (omega (arith, below))) (lt-ltb old.a SHARE_UNIT lt) in
        absurd (false≢true (sym large ∙ contrary))
    | inr ge ↦ ge
  ]

  enough_plus : (p : ℕ) → (2 * (plus_of old p - minus_of old p) ≤ plus_of new p) ⊎ ((2 ^ 36 ≤ plus_of new p) × (1000000 ≤ old.a))
  enough_plus p = elim (cases_lt (2 ^ 35) (plus_of old p - minus_of old p)) [
    | inl lt ↦ elim (cases_lt p (length old.plus)) [
      | inl here ↦ let at = plus_is p in inr (omega (arith, at, lt), a_large p here)
      | inr past ↦ let none : plus_of old p ≡ 0 = get_or_past old.plus p 0 past in absurd (omega (arith, none, lt))
    ]
    | inr ge ↦ let at = plus_is p in inl (omega (arith, at, ge))
  ]

  covers_new : (p : ℕ) → p < length head.routes → IsTrue (covers_share head.routes new p)
  covers_new p below =
      let s = share head.routes p old.link in
      let v = potential old (source_of head.routes p) (destination_of head.routes p) in
      let v_new = potential_is (source_of head.routes p) (destination_of head.routes p) in
      let near = pair_potential head old formed within coarse feasible p below in
      let far : potential new (source_of head.routes p) (destination_of head.routes p) ≡ 2 * v = omega (arith, v_new, near) in
      let at = minus_is p in
      let few : minus_of new p ≤ 2 * (minus_of old p - plus_of old p) = omega (arith, at) in
      let light = share-le head.routes p old.link (splits_of head.network head.routes within.splits) below in
      let room = coarse.1 in
      let all = covers_at s old.a old.b v (plus_of old p) (minus_of old p) (plus_of new p) (minus_of new p) (covers_old p below) light (omega (arith, room)) few (enough_plus p)
      (λ lt. omega (arith, at, lt))
      in
      let link : share head.routes p new.link ≡ s = ap (share head.routes p) is.link_is in
      le-leb _ _ (rw link (rw is.b_is (rw is.a_is (rw far all))))

  less_bound : (p : ℕ) → p < length head.routes → p < length old.plus → 2 * (minus_of old p - plus_of old p) ≤ minus_of new p
  less_bound p below here =
      let at = minus_is p in
      let large_a = a_large p here in
      let v = potential old (source_of head.routes p) (destination_of head.routes p) in
      let near = pair_potential head old formed within coarse feasible p below in
      let taken = taken_small (share head.routes p old.link) old.a old.b v (plus_of old p) (minus_of old p) (covers_old p below) (omega (arith, large_a)) in
      omega (arith, at, near, taken)

  less_enough : (p : ℕ) → p < length head.routes → 2 * (minus_of old p - plus_of old p) ≤ minus_of new p
  less_enough p below = elim (cases_lt p (length old.plus)) [
    | inl here ↦ less_bound p below here
    | inr past ↦ let none : minus_of old p ≡ 0 = get_or_past old.minus p 0 (omega (arith, past, same)) in omega (arith, none)
  ]

  more_few : (p : ℕ) → p < length head.routes → plus_of new p ≤ 2 * (plus_of old p - minus_of old p)
  more_few p below = let at = plus_is p in omega (arith, at)

  bounds_new : (wanted : DemandSet) → ((p : ℕ) → p < length head.routes → lower_of wanted p ≤ upper_of wanted p) → IsTrue (keeps_bounds wanted (length head.routes) old) →
      IsTrue (keeps_bounds wanted (length head.routes) new)
  bounds_new AllMatrices ordered keeps = refl
  bounds_new (Margin num den base) ordered keeps =
      balance_kept (length head.routes) (lower_of (Margin num den base)) (upper_of (Margin num den base)) (plus_of old) (minus_of old) (plus_of new) (minus_of new) ordered more_few less_enough keeps
  bounds_new (Box lower upper) ordered keeps =
      balance_kept (length head.routes) (lower_of (Box lower upper)) (upper_of (Box lower upper)) (plus_of old) (minus_of old) (plus_of new) (minus_of new) ordered more_few less_enough keeps

  pub doubled_feasible : IsFeasible head new
  doubled_feasible = record {
    starts = λ i below. let at = potential_is i i in let zero_is = feasible.starts i below in omega (arith, at, zero_is);
    rises = λ i h below in'.
        let at_head = potential_is i (head_of head.network h) in
        let at_tail = potential_is i (tail_of head.network h) in
        let weight = weight_is h in
        let up = feasible.rises i h below in' in
        omega (arith, at_head, at_tail, weight, up);
    covers = covers_new;
    bounds = bounds_new head.set (lower_within (length head.routes) head.set set) feasible.bounds;
  }

-- what is added and taken back stays where a and b are doubled
scale_bounds : (wanted : DemandSet) (n : ℕ) (old : Block) → IsTrue (keeps_bounds wanted n old) → IsTrue (keeps_bounds wanted n (with_twice_scale old))
scale_bounds AllMatrices n old keeps = refl
scale_bounds (Margin num den base) n old keeps = keeps
scale_bounds (Box lower upper) n old keeps = keeps

pub finer_feasible : (head : Head) (old new : Block) → is_well_formed head.network ≡ true → IsRoutingWithin head.network head.routes →
    IsSetWithin (length head.routes) head.set → length old.minus ≡ length old.plus → IsCoarse old.weights old.b → IsFinerForm old new →
    IsFeasible head old → IsFeasible head new
finer_feasible head old new formed within set same coarse (inl (small, is)) feasible =
    subst (IsFeasible head) (sym is) (record {
      starts = feasible.starts;
      rises = feasible.rises;
      covers = λ p below. let covers = leb-true _ _ (feasible.covers p below) in le-leb _ _ (omega (arith, covers));
      bounds = scale_bounds head.set (length head.routes) old feasible.bounds;
    })
finer_feasible head old new formed within set same coarse (inr (large, is)) feasible = doubled_feasible head old new formed within set same coarse large is feasible

-- twice both numbers have the same quotient
twice_quotient : (x y twice_x twice_y : ℕ) → 1 ≤ y → twice_x ≡ 2 * x → twice_y ≡ 2 * y → quotient_up twice_x twice_y ≤ quotient_up x y
twice_quotient x y twice_x twice_y some is_x is_y =
    let q = quotient_up x y in
    let enough = quotient_up-enough x y some in
    quotient_up-least twice_x twice_y q (omega (arith, is_y, some)) (rw is_x (rw is_y (omega (arith, enough))))

capacity_twice : (net : Network) (old : Block) → IsCoarse old.weights old.b → capacity_by net (map twice_within old.weights) ≡ 2 * capacity_by net old.weights
capacity_twice net old coarse =
    sum_below-same (link_count net) (λ h. capacity_of net h * slice_index (map twice_within old.weights) h) (λ h. 2 * (capacity_of net h * slice_index old.weights h))
    (λ h below.
    let at = twice_at old.weights h in
    let light = coarse_weight old coarse h in
    let twice : slice_index (map twice_within old.weights) h ≡ 2 * slice_index old.weights h = omega (arith, at, light) in
    ap (λ x. capacity_of net h * x) twice ∙ omega arith)
    ∙ sum_below-mul (link_count net) 2 (λ h. capacity_of net h * slice_index old.weights h)

pub finer_need : (net : Network) (old new : Block) → IsCoarse old.weights old.b → IsFinerForm old new → 1 ≤ old.b → 1 ≤ capacity_of net old.link →
    need_of net new ≤ need_of net old
finer_need net old new coarse (inl (small, is)) some some_capacity =
    subst (λ (b : Block). need_of net b ≤ need_of net old) (sym is)
    (twice_quotient (old.a * RATIO_UNIT * capacity_by net old.weights) (old.b * SHARE_UNIT * capacity_of net old.link)
    (2 * old.a * RATIO_UNIT * capacity_by net old.weights) (2 * old.b * SHARE_UNIT * capacity_of net old.link)
    (unit_positive old.b (capacity_of net old.link) some some_capacity) (omega arith) (omega arith))
finer_need net old new coarse (inr (large, is)) some some_capacity =
    let cost : capacity_by net new.weights ≡ 2 * capacity_by net old.weights = ap (capacity_by net) is.weights_are ∙ capacity_twice net old coarse in
    let a_is = is.a_is in
    let capacity : capacity_of net new.link ≡ capacity_of net old.link = ap (capacity_of net) is.link_is in
    twice_quotient (old.a * RATIO_UNIT * capacity_by net old.weights) (old.b * SHARE_UNIT * capacity_of net old.link)
    (new.a * RATIO_UNIT * capacity_by net new.weights) (new.b * SHARE_UNIT * capacity_of net new.link)
    (unit_positive old.b (capacity_of net old.link) some some_capacity) (rw cost (rw a_is (omega arith))) (rw is.b_is (rw capacity (omega arith)))

pub finer_link : (old new : Block) → IsFinerForm old new → new.link ≡ old.link
finer_link old new (inl (small, is)) = ap (λ (b : Block). b.link) is
finer_link old new (inr (large, is)) = is.link_is

pub finer_b : (old new : Block) → IsFinerForm old new → new.b ≡ 2 * old.b
finer_b old new (inl (small, is)) = ap (λ (b : Block). b.b) is
finer_b old new (inr (large, is)) = is.b_is
