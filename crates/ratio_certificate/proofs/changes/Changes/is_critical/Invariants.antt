use Rattle.std.proofs.Common.{◌≡◌, ℕ, ◌<◌, true}
use Rattle.best_blocks.specs.Rows.{is_marked}
use Rattle.ratio_certificate.specs.Changing.{IsTightFrom}
use Rattle.ratio_certificate.proofs.changes.Changes.is_critical.Given as goal

abbrev pub invariant-loop-i : goal.invariant-loop-i
invariant-loop-i l = (k : ℕ) → k < l.i → is_marked l.self.critical.now k ≡ true → IsTightFrom l.self k l.link → ⊥
