use Rattle.std.proofs.Common.{◌≡◌, ◌^◌, length}
use Rattle.centred_steps.specs.Weights.{AreWeightsUpTo}
use Rattle.ratio_certificate.proofs.seek.halves_of.Given as goal

abbrev pub invariant-loop-h : goal.invariant-loop-h
invariant-loop-h l = (length l.halves.items ≡ l.h) × AreWeightsUpTo (2 ^ 27) l.halves.items
