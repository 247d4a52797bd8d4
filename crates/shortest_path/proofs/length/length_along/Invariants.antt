use Rattle.std.proofs.Common.{◌≡◌, ◌*◌, ◌≤◌, take}
use Rattle.shortest_path.specs.Paths.{sum_along}
use Rattle.shortest_path.proofs.length.length_along.Given as goal

abbrev pub invariant-loop-link : goal.invariant-loop-link
invariant-loop-link l = (l.total ≡ sum_along l.lengths (take l.link-index l.links)) × (l.total ≤ l.link-index * 268435456)
