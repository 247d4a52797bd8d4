use Rattle.std.proofs.Common.{ℕ, ◌<◌}
use Rattle.ratio_certificate.specs.BlockChanges.{IsSettledOn}
use Rattle.ratio_certificate.proofs.better.BlockChanges.find.Given as goal

abbrev pub invariant-loop-h : goal.invariant-loop-h
invariant-loop-h l = (h : ℕ) → h < l.h → IsSettledOn l.self h
