use Rattle.std.proofs.Common.{◌≡◌, length, All}
use Rattle.robust_routing.specs.Weights.{AreLinkWeights}
use Rattle.robust_routing.proofs.weights.first_weights.Given as goal

abbrev pub invariant-loop-link : goal.invariant-loop-link
invariant-loop-link l = (length l.list.items ≡ l.link) × All (AreLinkWeights l.net) l.list.items
