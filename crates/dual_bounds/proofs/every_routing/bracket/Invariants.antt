use Rattle.std.proofs.Common.{◌∷◌, length, take}
use Rattle.routing.specs.Utilisation.{parts}
use Rattle.dual_bounds.specs.Dual.{unit_lengths}
use Rattle.dual_bounds.specs.Rows.{AreDistancesUnder}
use Rattle.dual_bounds.proofs.Choosing.{IsChoice}
use Rattle.dual_bounds.proofs.RoutingBounds.{keeps_rows}
use Rattle.dual_bounds.proofs.every_routing.bracket.Given as goal

abbrev pub invariant-loop-offered : goal.invariant-loop-offered
invariant-loop-offered l =
    IsChoice l.net (length l.routing.routes) l.matrix.demand (parts l.net l.routing.routes l.matrix.demand) (AreDistancesUnder l.net l.routing.routes)
    (keeps_rows l.net l.routing.routes) (unit_lengths l.net ∷ take l.offered-index l.lengths) l.best
