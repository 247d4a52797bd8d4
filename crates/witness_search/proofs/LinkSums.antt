-- Sums of the capacities of links that pass a test.
use Rattle.std.proofs.Common.{◌≡◌, ℕ, suc, ◌+◌, ◌*◌, ◌^◌, ◌≤◌, Bool, true, false, [], arith, ap, ◌∙◌}
use Rattle.std.specs.Prelude.{if◌then◌else◌}
use Rattle.te_model.specs.declared.certificate.Head.{Head}
use Rattle.te_model.specs.declared.network.Network.{Network}
use Rattle.te_model.specs.Counting.{sum_below}
use Rattle.te_model.specs.Network.{capacity_of, link_count}
use Rattle.te_model.specs.Validity.{IsValidHead}
use Rattle.te_model.proofs.Sums.{sum_below-bound}
use Rattle.te_model.proofs.Valid.{valid_limits}
use Rattle.witness_search.specs.RouteLimits.{HasSmallLinks}
use Rattle.te_model.proofs.ValidHeads.{valid_without_blocks}

-- what the first n of the links that pass carry together
abbrev pub capacities_where : Network → (ℕ → Bool) → ℕ → ℕ
capacities_where net test n = sum_below n (λ h. if test h then capacity_of net h else 0)

pub where_small : (net : Network) (test : ℕ → Bool) (n : ℕ) → HasSmallLinks net → n ≤ link_count net → capacities_where net test n ≤ 2 ^ 42
where_small net test n small le =
    let each : capacities_where net test n ≤ n * 4294967296 =
    sum_below-bound n 4294967296 (λ h. if test h then capacity_of net h else 0) (λ h below. at_most (test h) (capacity_of net h) (small.capacities h))
    in
    let few = small.few in
    omega (arith, each, few, le)
  where
    at_most : (b : Bool) (c : ℕ) → c ≤ 4294967296 → (if b then c else 0) ≤ 4294967296
    at_most true c le = le
    at_most false c le = omega arith

-- one link more
pub where_more : (net : Network) (test : ℕ → Bool) (n total part : ℕ) → total ≡ capacities_where net test n → part ≡ (if test n then capacity_of net n else 0) →
    total + part ≡ capacities_where net test (n + 1)
where_more net test n total part was is =
    let next : suc n ≡ n + 1 = omega arith in
    ap (λ k. k + part) was ∙ ap (λ k. capacities_where net test n + k) is ∙ ap (capacities_where net test) next

-- the links of a valid head
pub head_links_small : (h : Head) → IsValidHead h → HasSmallLinks h.network
head_links_small h valid =
    let limits = valid_limits (record { head = h; blocks = [] }) (valid_without_blocks h valid) in
    record { few = limits.links; capacities = limits.capacities; some = limits.capacity }
