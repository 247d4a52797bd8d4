use Rattle.std.proofs.Common.{◌≡◌, take}
use Rattle.shortest_path.specs.Paths.{sum_along}
use Rattle.robust_routing.specs.Sweep.{capped}
use Rattle.robust_routing.proofs.offering.cost_of.Given as goal

abbrev pub invariant-loop-link : goal.invariant-loop-link
invariant-loop-link l = l.total ≡ capped (sum_along l.lengths (take l.link-index l.links))
