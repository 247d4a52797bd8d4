use Rattle.std.proofs.Common.{◌≡◌}
use Rattle.robust_routing.specs.Prices.{greatest_quotient}
use Rattle.robust_routing.proofs.lengths.greatest_quotient.Given as goal

abbrev pub invariant-loop-link : goal.invariant-loop-link
invariant-loop-link l = l.greatest ≡ greatest_quotient l.quotients l.link l.pair
