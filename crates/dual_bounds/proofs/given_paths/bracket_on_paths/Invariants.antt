use Rattle.std.proofs.Common.{◌∷◌, length, take}
use Rattle.routing.specs.Utilisation.{parts}
use Rattle.dual_bounds.specs.Dual.{unit_lengths}
use Rattle.dual_bounds.specs.GivenPaths.{AreShortest}
use Rattle.dual_bounds.proofs.Choosing.{IsChoice}
use Rattle.dual_bounds.proofs.PathBounds.{keeps_none}
use Rattle.dual_bounds.proofs.given_paths.bracket_on_paths.Given as goal

abbrev pub invariant-loop-offered : goal.invariant-loop-offered
invariant-loop-offered l =
    IsChoice l.net (length l.fixed.routes) l.matrix.demand (parts l.net l.routing.routes l.matrix.demand) (AreShortest l.fixed.routes) keeps_none
    (unit_lengths l.net ∷ take l.offered-index l.lengths) l.best
