use Rattle.std.proofs.Common.{◌≡◌, take}
use Rattle.robust_routing.specs.Offers.{costs_of}
use Rattle.robust_routing.proofs.offering.costs_of.Given as goal

abbrev pub invariant-loop-path : goal.invariant-loop-path
invariant-loop-path l = l.costs.items ≡ costs_of l.lengths (take l.path-index l.paths)
