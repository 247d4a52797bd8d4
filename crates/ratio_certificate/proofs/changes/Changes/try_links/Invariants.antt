use Rattle.std.proofs.Common.{ℕ, ◌<◌, ◌≤◌}
use Rattle.ratio_certificate.specs.Changing.{IsSettledIn}
use Rattle.ratio_certificate.proofs.changes.Changes.try_links.Given as goal

abbrev pub invariant-loop-h : goal.invariant-loop-h
invariant-loop-h l =
    (h : ℕ) → l.first ≤ h → h < l.h → IsSettledIn l.self h
