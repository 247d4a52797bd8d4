use Rattle.robust_routing.specs.Lengths.{AreLengths}
use Rattle.robust_routing.specs.Prices.{AreByPrices, ArePricesMoved}
use Rattle.robust_routing.proofs.lengths.next_lengths.Given as goal

abbrev pub invariant-loop-link : goal.invariant-loop-link
invariant-loop-link l =
    AreLengths l.link l.lengths.items
    × AreByPrices l.sweep l.fn.tables l.links l.pair l.link l.lengths.items
    × ArePricesMoved l.sweep l.links l.pair l.link l.fn.tables l.tables
