use Rattle.std.proofs.Common.{◌≡◌, ℕ, List, true}
use Rattle.robust_routing.proofs.Shifts.{ShiftsSoFar}
use Rattle.robust_routing.proofs.start.move_to_least.Given as goal

abbrev pub invariant-loop-p : goal.invariant-loop-p
invariant-loop-p l =
    (l.searches ≡ l.fn.searches)
    × ShiftsSoFar l.round.net.now l.round.sweep (λ (x : List ℕ). x ≡ l.lengths) l.round.pairs.now (λ _. true) 1 l.p l.fn.list l.list
