use Rattle.std.proofs.Common.{◌≡◌, ◌-◌, ◌<◌, ℕ, length, slice_index}
use Rattle.ratio_tightening.specs.Finer.{twice_within}
use Rattle.ratio_tightening.proofs.finer.twice_excess.Given as goal

abbrev pub invariant-loop-p : goal.invariant-loop-p
invariant-loop-p l =
    (length l.twice.items ≡ l.p) × ((k : ℕ) → k < l.p → slice_index l.twice.items k ≡ twice_within (slice_index l.numbers k - slice_index l.others k))
