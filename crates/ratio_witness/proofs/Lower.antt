-- Why a witness shows what it shows.
use Rattle.std.proofs.Common.{◌≡◌, ℕ, zero, suc, ◌+◌, ◌-◌, ◌*◌, ◌<◌, ◌≤◌, Bool, true, false, List, [], length, arith, refl, ap, inl, inr, subst, ◌==◌}
use Rattle.std.specs.Prelude.{if◌then◌else◌, slice_index_or}
use Rattle.std.proofs.lemmas.Bool.{cases_lt}
use Rattle.std.proofs.lemmas.Bool.Decides.{nat_tests}
use Rattle.std.proofs.lemmas.List.Sums.{list_all-from_AllPass}
use Rattle.std.proofs.Math.Nat.{mul-le-mul_left, le_of_mul-le-mul_left, div-lt_iff_lt-mul, div-zero}
use Rattle.te_model.specs.declared.network.Network.{Network}
use Rattle.te_model.specs.declared.route.PathShare.{PathShare}
use Rattle.te_model.specs.declared.route.PairRoutes.{PairRoutes}
use Rattle.te_model.specs.declared.units.TheConstants.{SHARE_UNIT}
use Rattle.te_model.specs.Counting.{all_below}
use Rattle.te_model.specs.Division.{quotient_up}
use Rattle.te_model.specs.Network.{link_count, capacity_of, no_link}
use Rattle.te_model.specs.Path.{is_path, share, source_of, destination_of}
use Rattle.te_model.specs.Flow.{load, IsFlow, IsRouting}
use Rattle.te_model.proofs.Shares.{weights_flow}
use Rattle.te_model.proofs.Tests.{get_or_past}
use Rattle.ratio_witness.specs.Witness.{rival_share, IsRivalOf, most_used_link, performance_ratio, WitnessesShow, LowerBoundsLimitRivals}
use Rattle.ratio_witness.proofs.Ratios.{quotient_of_none}

-- a rival is a routing of the matrix
rival_routes : (net : Network) (routes : List PairRoutes) (demand : ℕ → ℕ) (rival : List (List PathShare)) →
    IsRivalOf net routes demand rival → IsRouting net routes demand SHARE_UNIT (rival_share rival)
rival_routes net routes demand rival is p below some =
    let s = source_of routes p in
    let t = destination_of routes p in
    let paths = slice_index_or rival p [] in
    subst (λ a. IsFlow net (rival_share rival p) a s t) (is.whole p below some)
    (weights_flow net s t paths (list_all-from_AllPass (λ q. is_path net s t q.links) paths (is.paths p below some)))

most_used_link_in : (net : Network) (on : ℕ → ℕ) (n : ℕ) → 0 < n → most_used_link net on n < n
most_used_link_in net on zero some = absurd (omega arith)
most_used_link_in net on (suc zero) some = grind (arith, nat_tests)
most_used_link_in net on (suc (suc n)) some = let rest = most_used_link_in net on (suc n) (omega arith) in grind (arith, nat_tests)

cross : (a b x c d z : ℕ) → 1 ≤ d → x * d ≤ b * z → b * c ≤ a * d → x * c ≤ a * z
cross a b x c d z some one two =
    let left = mul-le-mul_left {m = x * d} {n = b * z} c one in
    let right = mul-le-mul_left {m = b * c} {n = a * d} z two in
    let both : d * (x * c) ≤ d * (a * z) = omega (arith, left, right) in
    le_of_mul-le-mul_left {m = x * c} {n = a * z} {k = d} both (omega arith)

-- no link below n has a greater load over its capacity
most_used_link_most : (net : Network) (on : ℕ → ℕ) (n : ℕ) → ((h : ℕ) → h < n → 1 ≤ capacity_of net h) →
    (k : ℕ) → k < n → on k * capacity_of net (most_used_link net on n) ≤ on (most_used_link net on n) * capacity_of net k
most_used_link_most net on zero some k below = absurd (omega arith)
most_used_link_most net on (suc n) some k below =
    let e = most_used_link net on n in
    elim (cases_lt (on e * capacity_of net n) (on n * capacity_of net e)) [
      | inl more ↦
          let pick : most_used_link net on (suc n) ≡ n = grind (arith, nat_tests) in
          elim (cases_lt k n) [
            | inl lt ↦
                let inside = most_used_link_in net on n (omega arith) in
                rw pick (cross (on n) (on e) (on k) (capacity_of net n) (capacity_of net e) (capacity_of net k) (some e (omega arith))
                (most_used_link_most net on n (λ h h_in. some h (omega arith)) k lt) (omega arith))
            | inr ge ↦ let same : k ≡ n = omega arith in rw (pick, same) (omega arith)
          ]
      | inr no_more ↦
          let pick : most_used_link net on (suc n) ≡ e = grind (arith, nat_tests) in
          elim (cases_lt k n) [
            | inl lt ↦ rw pick (most_used_link_most net on n (λ h h_in. some h (omega arith)) k lt)
            | inr ge ↦ let same : k ≡ n = omega arith in rw (pick, same) no_more
          ]
    ]

quotient_least : (x y r : ℕ) → 0 < y → x ≤ r * y → quotient_up x y ≤ r
quotient_least x y r some fits =
    let below = (div-lt_iff_lt-mul {k = y} {x = x + (y - 1)} {y = suc r} some).1 (omega (arith, fits)) in
    omega (arith, below)

picked : (b : Bool) (v : ℕ) → 1 ≤ (if b then 0 else v) → (if b then 0 else v) ≡ v
picked true v some = absurd (omega (arith, some))
picked false v some = refl

no_quotient : (x y : ℕ) → y ≡ 0 → 1 ≤ quotient_up x y → ⊥
no_quotient x y none some = let e : quotient_up x y ≡ 0 = rw none (div-zero _) in omega (arith, some, e)

no_link_no_capacity : (net : Network) (e : ℕ) → link_count net ≡ 0 → capacity_of net e ≡ 0
no_link_no_capacity net e none = ap (λ l. l.capacity) (get_or_past net.links e no_link (omega arith))

pub show_lower : WitnessesShow
show_lower net routes set demand rival bound member is at_most some r less claim =
    let pairs = length routes in
    let m = link_count net in
    let f = load pairs demand (share routes) in
    let g = load pairs demand (rival_share rival) in
    let e = most_used_link net f m in
    let h = most_used_link net g m in
    let x = 1000000 * capacity_of net h * f e in
    let y = g h * capacity_of net e in
    let is_quotient : performance_ratio net routes demand rival ≡ quotient_up x y = picked (all_below pairs (λ p. demand p == 0)) (quotient_up x y) (omega (arith, at_most)) in
    elim (cases_lt 0 y) [
      | inl y_some ↦
          elim (cases_lt 0 m) [
            | inl m_some ↦
                let e_in = most_used_link_in net f m m_some in
                let h_in = most_used_link_in net g m m_some in
                let over = claim demand member 1000000 (omega arith) (rival_share rival) (rival_routes net routes demand rival is)
                (g h) (1000000 * capacity_of net h) (omega (arith, some h h_in))
                (λ k k_in. omega (arith, most_used_link_most net g m some k k_in)) e e_in in
                let fits : x ≤ r * y = omega (arith, over) in
                omega (arith, quotient_least x y r y_some fits, is_quotient, at_most, less)
            | inr m_none ↦
                let none = no_link_no_capacity net e (omega arith) in
                let y_none : y ≡ 0 = rw none (omega arith) in
                omega (arith, y_none, y_some)
          ]
      | inr y_none ↦ no_quotient x y (omega arith) (omega (arith, is_quotient, at_most))
    ]

zero_or : (b : Bool) (v limit : ℕ) → v ≤ limit → (if b then 0 else v) ≤ limit
zero_or true v limit fits = omega arith
zero_or false v limit fits = fits

-- by what the rival's most used link h carries, of which x * c * q is at most y * g
limited : (x y limit f g c d : ℕ) → 1 ≤ y → 1000000 * (y * f) ≤ limit * (x * (1000000 * d)) → x * (1000000 * c) ≤ y * g →
    1000000 * c * f ≤ limit * (g * d)
limited x y limit f g c d some one two =
    let left = mul-le-mul_left {m = 1000000 * (y * f)} {n = limit * (x * (1000000 * d))} c one in
    let right = mul-le-mul_left {m = x * (1000000 * c)} {n = y * g} (limit * d) two in
    let both : y * (1000000 * c * f) ≤ y * (limit * (g * d)) = omega (arith, left, right) in
    le_of_mul-le-mul_left {m = 1000000 * c * f} {n = limit * (g * d)} {k = y} both (omega arith)

pub limit_rivals : LowerBoundsLimitRivals
limit_rivals net routes demand rival x y limit some_y bound is some fits =
    let pairs = length routes in
    let m = link_count net in
    let f = load pairs demand (share routes) in
    let g = load pairs demand (rival_share rival) in
    let e = most_used_link net f m in
    let h = most_used_link net g m in
    let over = 1000000 * capacity_of net h * f e in
    let under = g h * capacity_of net e in
    zero_or (all_below pairs (λ p. demand p == 0)) (quotient_up over under) limit (elim (cases_lt 0 under) [
      | inl under_some ↦
          elim (cases_lt 0 m) [
            | inl m_some ↦
                let e_in = most_used_link_in net f m m_some in
                let h_in = most_used_link_in net g m m_some in
                let low = bound 1000000 (omega arith) (rival_share rival) (rival_routes net routes demand rival is)
                (g h) (1000000 * capacity_of net h) (omega (arith, some h h_in))
                (λ k k_in. omega (arith, most_used_link_most net g m some k k_in)) in
                quotient_least over under limit under_some (limited x y limit (f e) (g h) (capacity_of net h) (capacity_of net e) some_y (fits e e_in) low)
            | inr m_none ↦
                let none = no_link_no_capacity net e (omega arith) in
                let under_none : under ≡ 0 = rw none (omega arith) in
                omega (arith, under_none, under_some)
          ]
      | inr under_none ↦ let e' = quotient_of_none over under (omega arith) in omega (arith, e')
    ])
