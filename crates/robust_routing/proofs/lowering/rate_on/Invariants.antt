use Rattle.std.proofs.Common.{◌≡◌}
use Rattle.robust_routing.specs.Lowering.{rate_below}
use Rattle.robust_routing.proofs.lowering.rate_on.Given as goal

abbrev pub invariant-loop-link : goal.invariant-loop-link
invariant-loop-link l = l.least ≡ rate_below l.sweep l.tables l.pair l.links l.rate l.link-index
