use Rattle.std.proofs.Common.{ℕ, ◌^◌, ◌≤◌, slice_index}
use Rattle.te_model.specs.declared.units.TheConstants.{SHARE_UNIT}
use Rattle.best_blocks.proofs.Quotients.{IsBestSoFar}
use Rattle.kept_ways.specs.KeptWays.{way_at}
use Rattle.kept_ways.proofs.lengths.greatest_quotient.Given as goal

abbrev pub invariant-loop-i : goal.invariant-loop-i
invariant-loop-i l =
    ((p : ℕ) × IsBestSoFar l.i (λ k. (way_at l.ways k).share) (slice_index l.lengths) p l.best.a l.best.b)
    × (l.best.a ≤ SHARE_UNIT)
    × (l.best.b ≤ 2 ^ 36)
