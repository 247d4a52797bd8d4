-- The first link on which the share of some pair is not covered.
use Rattle.std.specs.Prelude.{◌≡◌, ℕ, ◌+◌, ◌*◌, ◌<◌, Bool, Option, Some, None, List, if◌then◌else◌, nat_le, ◌==◌}
use Rattle.te_model.specs.declared.route.PairRoutes.{PairRoutes}
use Rattle.te_model.specs.declared.certificate.Block.{Block}
use Rattle.te_model.specs.declared.inequality.InequalityFault.{InequalityFault}
use Rattle.te_model.specs.Counting.{first_below, unless}
use Rattle.te_model.specs.Certificate.{block_of, plus_of, minus_of}
use Rattle.te_model.specs.Inequalities.{covers_share, failure_at}
use Rattle.ratio_checker.specs.declared.shares.Uncovered.{Uncovered}

-- I2 of pair p: the block covers so large a share by this distance from its source to its destination
abbrev pub covers_by : Block → ℕ → ℕ → ℕ → Bool
covers_by block p share distance =
    nat_le (share * block.b + block.a * minus_of block p) (block.a * (distance + plus_of block p))

-- where I2 fails first of the pairs below n, on link e
abbrev pub failure_among : List PairRoutes → List Block → ℕ → ℕ → Option InequalityFault
failure_among routes blocks n e = first_below n (λ p. unless (covers_share routes (block_of blocks e) p) (failure_at 2 p))

-- I2 fails on none of the links of the pairs below n; or it first fails on this link, and there of this pair
abbrev pub IsFirstUncovered : List PairRoutes → List Block → ℕ → ℕ → Option Uncovered → Type 0
IsFirstUncovered routes blocks links n None = (e : ℕ) → e < links → failure_among routes blocks n e ≡ None
IsFirstUncovered routes blocks links n (Some u) =
    (u.link < links)
    × (failure_among routes blocks n u.link ≡ Some (failure_at 2 u.pair))
    × ((e : ℕ) → e < u.link → failure_among routes blocks n e ≡ None)

-- what fails of I2 on link e, where nothing fails of it on the links before
abbrev pub fault_on : Option Uncovered → ℕ → Option InequalityFault
fault_on None e = None
fault_on (Some u) e = if u.link == e then Some (failure_at 2 u.pair) else None
