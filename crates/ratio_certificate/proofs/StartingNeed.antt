-- What the starting weights need is within the limit of ratios.
use Rattle.std.proofs.Common.{◌≡◌, ℕ, ◌*◌, ◌^◌, ◌<◌, ◌≤◌, true, arith, slice_index}
use Rattle.std.proofs.lemmas.List.{get_or-replicate}
use Rattle.std.proofs.lemmas.Nat.{mul-le}
use Rattle.te_model.specs.declared.network.Network.{Network}
use Rattle.te_model.specs.Inequalities.{capacity_by}
use Rattle.te_model.specs.Network.{is_well_formed, link_count, capacity_of}
use Rattle.te_model.proofs.Quotients.{quotient_up-least}
use Rattle.te_model.proofs.Sizes.{unit_positive}
use Rattle.te_model.proofs.Sums.{sum_below-bound}
use Rattle.te_model.proofs.WellFormed.{capacities_positive, capacities_small, few_links}
use Rattle.best_blocks.specs.Need.{need_by}
use Rattle.ratio_certificate.specs.Rounds.{starting_weights}

-- the sum of capacities by weights of 2^20
starting_capacity : (net : Network) → is_well_formed net ≡ true → capacity_by net (starting_weights net) ≤ 2 ^ 62
starting_capacity net formed =
    let each = sum_below-bound (link_count net) (2 ^ 52) (λ h. capacity_of net h * slice_index (starting_weights net) h) (λ h below.
    let w : slice_index (starting_weights net) h ≡ 2 ^ 20 = get_or-replicate (link_count net) h (2 ^ 20) 0 below in
    let bound = mul-le (capacity_of net h) (slice_index (starting_weights net) h) (2 ^ 32) (2 ^ 20) (capacities_small net formed h) (omega (arith, w)) in
    omega (arith, bound))
    in
    omega (arith, each, few_links net formed)

cost_bound : (a w b c : ℕ) → a ≤ 1000000 → w ≤ 2 ^ 62 → 2 ^ 20 ≤ b → 1 ≤ c → a * 1000000 * w ≤ 1000000 * 2 ^ 42 * (b * 1000000 * c)
cost_bound a w b c ha hw hb hc =
    let first : a * 1000000 ≤ 1000000 * 1000000 = omega arith in
    let left = mul-le (a * 1000000) w (1000000 * 1000000) (2 ^ 62) first hw in
    let second : 2 ^ 20 * 1000000 ≤ b * 1000000 = omega arith in
    let third = mul-le (2 ^ 20 * 1000000) 1 (b * 1000000) c second hc in
    omega (arith, left, third)

pub starting_need : (net : Network) (e a b : ℕ) → is_well_formed net ≡ true → e < link_count net → a ≤ 1000000 → 2 ^ 20 ≤ b →
    need_by net e (starting_weights net) a b ≤ 1000000 * 2 ^ 42
starting_need net e a b formed inside small large =
    let w = capacity_by net (starting_weights net) in
    let some = capacities_positive net formed e inside in
    quotient_up-least (a * 1000000 * w) (b * 1000000 * capacity_of net e) (1000000 * 2 ^ 42)
    (unit_positive b (capacity_of net e) (omega (arith, large)) some)
    (cost_bound a w b (capacity_of net e) small (starting_capacity net formed) large some)
