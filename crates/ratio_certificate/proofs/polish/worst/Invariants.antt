use Rattle.std.proofs.Common.{ℕ, ◌<◌, ◌≤◌, length}
use Rattle.ratio_certificate.specs.Places.{weighting_at}
use Rattle.ratio_certificate.proofs.polish.worst.Given as goal

abbrev pub invariant-loop-k : goal.invariant-loop-k
invariant-loop-k l =
    (l.place < length l.list)
    × ((j : ℕ) → j < l.k → (weighting_at l.list j).need ≤ (weighting_at l.list l.place).need)
    × ((j : ℕ) → j < l.place → (weighting_at l.list j).need < (weighting_at l.list l.place).need)
