use Rattle.std.proofs.Common.{◌≡◌, ℕ, ◌*◌, ◌<◌, length, slice_index}
use Rattle.ratio_certificate.proofs.polish.double_weights.Given as goal

abbrev pub invariant-loop-h : goal.invariant-loop-h
invariant-loop-h l = (length l.twice.items ≡ l.h) × ((k : ℕ) → k < l.h → slice_index l.twice.items k ≡ 2 * slice_index l.weights k)
