use Rattle.std.proofs.Common.{◌≡◌}
use Rattle.te_model.specs.Network.{link_count}
use Rattle.robust_routing.specs.Lengths.{AreLengths}
use Rattle.robust_routing.specs.Sweep.{looks}
use Rattle.robust_routing.proofs.Shifts.{ShiftsSoFar}
use Rattle.robust_routing.proofs.pairs.sweep_pairs.Given as goal

abbrev pub invariant-loop-p : goal.invariant-loop-p
invariant-loop-p l =
    (l.searches ≡ l.fn.searches)
    × ShiftsSoFar l.round.net.now l.round.sweep (AreLengths (link_count l.round.net.now)) l.round.pairs.now (looks l.round.sweep) l.limit l.p l.fn.list l.list
