-- How great the sums are of which a bound is made.
use Rattle.std.proofs.Common.{◌≡◌, ℕ, zero, suc, ◌+◌, ◌*◌, ◌/◌, ◌^◌, ◌<◌, ◌≤◌, true, List, [], ◌∷◌, arith, refl, ap, ◌∙◌, inl, inr, slice_index}
use Rattle.std.specs.Prelude.{max, replicate}
use Rattle.std.proofs.Math.Nat.{mul-le-mul_left, le_of_mul-le-mul_left, div-mul-le_self}
use Rattle.std.proofs.lemmas.Bool.{cases_lt}
use Rattle.std.proofs.lemmas.Nat.{mul-le}
use Rattle.std.proofs.lemmas.List.{get_or-replicate}
use Rattle.std.proofs.lemmas.List.Elements.{All-get_or}
use Rattle.te_model.specs.declared.network.Network.{Network}
use Rattle.te_model.specs.Counting.{sum_below}
use Rattle.te_model.specs.Network.{is_well_formed, link_count, capacity_of}
use Rattle.te_model.proofs.Sums.{sum_below-bound, sum_below-same, sum_below-zero}
use Rattle.routing.specs.Routes.{AreDemands}
use Rattle.shortest_path.specs.Paths.{sum_along}
use Rattle.te_model.proofs.WellFormed.{capacities_positive}
use Rattle.te_model.specs.Inequalities.{capacity_by}
use Rattle.dual_bounds.specs.Dual.{unit_lengths, total_capacity, demand_by}

-- by demands of at most 2^32 and distances of at most 2^36
pub demand_small : (n : ℕ) (demand : List ℕ) (distance : ℕ → ℕ) → n < 2 ^ 32 → AreDemands n demand → ((p : ℕ) → p < n → distance p ≤ 2 ^ 36) →
    demand_by n demand distance ≤ 2 ^ 100
demand_small n demand distance few demands small =
    let bound = sum_below-bound n (2 ^ 32 * 2 ^ 36) (λ p. slice_index demand p * distance p) (λ p below.
    mul-le (slice_index demand p) (distance p) (2 ^ 32) (2 ^ 36)
    (All-get_or (λ d. d ≤ 2 ^ 32) demand p 0 (omega (arith, below, demands.count)) demands.small) (small p below))
    in
    omega (arith, bound)

pub demand_same : (n : ℕ) (demand : List ℕ) (d e : ℕ → ℕ) → ((p : ℕ) → p < n → d p ≡ e p) → demand_by n demand d ≡ demand_by n demand e
demand_same n demand d e same =
    sum_below-same n (λ p. slice_index demand p * d p) (λ p. slice_index demand p * e p) (λ p below. ap (λ x. slice_index demand p * x) (same p below))

-- under lengths of 1 the sum is the capacity
pub unit_capacity : (net : Network) → capacity_by net (unit_lengths net) ≡ total_capacity net
unit_capacity net =
    sum_below-same (link_count net) (λ h. capacity_of net h * slice_index (unit_lengths net) h) (capacity_of net) (λ h below.
    let one : slice_index (unit_lengths net) h ≡ 1 = get_or-replicate (link_count net) h 1 0 below in
    ap (λ x. capacity_of net h * x) one ∙ omega arith)

-- a network without capacity has no links
pub no_links : (net : Network) → is_well_formed net ≡ true → total_capacity net ≡ 0 → link_count net ≡ 0
no_links net formed none = go (link_count net) (λ h below. capacities_positive net formed h below) none
  where
    go : (m : ℕ) → ((h : ℕ) → h < m → 1 ≤ capacity_of net h) → sum_below m (capacity_of net) ≡ 0 → m ≡ 0
    go zero each none = refl
    go (suc m) each none = absurd (omega (arith, each m (omega arith), none))

-- without links every sum of lengths of 1 is 0
pub no_length : (net : Network) (links : List ℕ) → link_count net ≡ 0 → sum_along (unit_lengths net) links ≡ 0
no_length net links none = ap (λ (n : ℕ). sum_along (replicate n 1) links) none ∙ go links
  where
    go : (links : List ℕ) → sum_along [] links ≡ 0
    go [] = refl
    go (h ∷ hs) = omega (arith, go hs)

-- with no pair at a distance there is nothing to bound
pub no_demand : (n : ℕ) (demand : List ℕ) (distance : ℕ → ℕ) → ((p : ℕ) → p < n → distance p ≡ 0) → demand_by n demand distance ≡ 0
no_demand n demand distance none =
    sum_below-zero n (λ p. slice_index demand p * distance p) (λ p below. ap (λ x. slice_index demand p * x) (none p below) ∙ omega arith)

-- where c / d is greater than a / b in whole parts of 1 / s, it is not below it
pub greater_quotient : (a b c d s : ℕ) → 1 ≤ b → 1 ≤ d → 1 ≤ s → a * s / b < c * s / d → a * d ≤ c * b
greater_quotient a b c d s some_b some_d some_s greater =
    let q = c * s / d in
    let down : q * d ≤ c * s = div-mul-le_self (c * s) d in
    let up : a * s ≤ b * q = below_next (a * s) b q some_b greater in
    let left : d * (a * s) ≤ d * (b * q) = mul-le-mul_left d up in
    let right : b * (q * d) ≤ b * (c * s) = mul-le-mul_left b down in
    let scaled : s * (a * d) ≤ s * (c * b) = omega (arith, left, right) in
    le_of_mul-le-mul_left scaled (omega arith)
  where
    below_next : (x y q : ℕ) → 1 ≤ y → x / y < q → x ≤ y * q
    below_next x y q some lt =
        let next : y * (x / y + 1) ≤ y * q = mul-le-mul_left y (omega arith) in
        omega (arith, next)

-- a quotient that is not below one which is not below u / v
pub above_through : (a b c d u v : ℕ) → 1 ≤ b → b * u ≤ a * v → a * d ≤ c * b → d * u ≤ c * v
above_through a b c d u v some first second =
    let left : d * (b * u) ≤ d * (a * v) = mul-le-mul_left d first in
    let right : v * (a * d) ≤ v * (c * b) = mul-le-mul_left v second in
    let scaled : b * (d * u) ≤ b * (c * v) = omega (arith, left, right) in
    le_of_mul-le-mul_left scaled (omega arith)

-- the bound is not below that of lengths of 1: either there is capacity, or there is no link and every distance is 0
pub above_unit : (net : Network) (num den units : ℕ) → is_well_formed net ≡ true → den * units ≤ num * max 1 (capacity_by net (unit_lengths net)) →
    (link_count net ≡ 0 → units ≡ 0) → den * units ≤ num * total_capacity net
above_unit net num den units formed above idle =
    elim (cases_lt 0 (total_capacity net)) [
      | inl some ↦
          let whole : max 1 (capacity_by net (unit_lengths net)) ≡ total_capacity net = ap (λ x. max 1 x) (unit_capacity net) ∙ omega arith in
          let same : num * max 1 (capacity_by net (unit_lengths net)) ≡ num * total_capacity net = ap (λ x. num * x) whole in
          omega (arith, above, same)
      | inr none ↦
          let zero' : den * units ≡ 0 = ap (λ x. den * x) (idle (no_links net formed (omega arith))) ∙ omega arith in
          omega (arith, zero')
    ]
