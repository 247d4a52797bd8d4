use Rattle.std.proofs.Common.{take}
use Rattle.ratio_certificate.specs.Rounds.{AreRaised}
use Rattle.ratio_certificate.proofs.raising.raise.Given as goal

abbrev pub invariant-loop-link : goal.invariant-loop-link
invariant-loop-link l = AreRaised l.net (take l.link-index l.path) l.least l.weights l.next.items
