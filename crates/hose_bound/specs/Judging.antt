-- How the verdict is found: pair by pair, and then link by link.
use Rattle.std.specs.Prelude.{◌≡◌, ℕ, ◌^◌, ◌<◌, ◌≤◌, List, Option, Some, None, if◌then◌else◌, slice_index, ◌==◌}
use Rattle.te_model.specs.declared.inequality.InequalityFault.{InequalityFault}
use Rattle.te_model.specs.declared.route.PairRoutes.{PairRoutes}
use Rattle.te_model.specs.declared.units.TheConstants.{SHARE_UNIT}
use Rattle.te_model.specs.Inequalities.{failure_at}
use Rattle.hose_bound.specs.declared.hose.Hose.{Hose}
use Rattle.hose_bound.specs.declared.hose.HoseBlock.{HoseBlock}
use Rattle.hose_bound.specs.declared.pairs.UncoveredPair.{UncoveredPair}
use Rattle.hose_bound.specs.Verdict.{hose_block_of, pairs_failure}

-- the amounts of a hose, also past the ends of its lists
pub record AreSmallAmounts (h : Hose) : Type 0 where
  pub sent : (i : ℕ) → slice_index h.sent i ≤ 2 ^ 32
  pub received : (i : ℕ) → slice_index h.received i ≤ 2 ^ 32

-- the numbers of a block
pub record IsSmallBlock (b : HoseBlock) : Type 0 where
  pub tails : (i : ℕ) → slice_index b.tails i ≤ SHARE_UNIT
  pub heads : (i : ℕ) → slice_index b.heads i ≤ SHARE_UNIT

-- where H1 fails first on link e, of the pairs below n
abbrev pub failure_among : List PairRoutes → List HoseBlock → ℕ → ℕ → Option InequalityFault
failure_among routes blocks n e = pairs_failure routes e (hose_block_of blocks e) n

-- H1 fails on none of the links of the pairs below n; or it first fails on this link, and there of this pair
abbrev pub IsFirstUncoveredPair : List PairRoutes → List HoseBlock → ℕ → ℕ → Option UncoveredPair → Type 0
IsFirstUncoveredPair routes blocks links n None = (e : ℕ) → e < links → failure_among routes blocks n e ≡ None
IsFirstUncoveredPair routes blocks links n (Some u) =
    (u.link < links)
    × (failure_among routes blocks n u.link ≡ Some (failure_at 1 u.pair))
    × ((e : ℕ) → e < u.link → failure_among routes blocks n e ≡ None)

-- what fails of H1 on link e, where nothing fails of it on the links before
abbrev pub fault_of_pairs : Option UncoveredPair → ℕ → Option InequalityFault
fault_of_pairs None e = None
fault_of_pairs (Some u) e = if u.link == e then Some (failure_at 1 u.pair) else None
