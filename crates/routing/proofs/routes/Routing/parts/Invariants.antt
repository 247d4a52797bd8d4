use Rattle.std.proofs.Common.{◌≡◌}
use Rattle.te_model.specs.Counting.{greatest_below}
use Rattle.routing.specs.Utilisation.{parts_on}
use Rattle.routing.proofs.routes.Routing.parts.Given as goal

abbrev pub invariant-loop-h : goal.invariant-loop-h
invariant-loop-h l = l.most ≡ greatest_below l.h (parts_on l.net l.self.routes l.matrix.demand)
