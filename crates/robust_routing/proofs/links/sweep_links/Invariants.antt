use Rattle.std.proofs.Common.{◌≡◌, length, All}
use Rattle.robust_routing.specs.Rows.{AreRows}
use Rattle.robust_routing.specs.Weights.{AreLinkWeights}
use Rattle.robust_routing.proofs.links.sweep_links.Given as goal

abbrev pub invariant-loop-link : goal.invariant-loop-link
invariant-loop-link l =
    (l.searches ≡ l.fn.searches)
    × AreRows l.round.net.now l.rows.items
    × (length l.next.items ≡ l.link)
    × All (AreLinkWeights l.round.net.now) l.next.items
