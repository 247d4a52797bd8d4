use Rattle.std.proofs.Common.{◌≡◌, take, false}
use Rattle.std.specs.List.{list_any}
use Rattle.series_simulation.proofs.recovery.has_mark.Given as goal

abbrev pub invariant-loop-mark : goal.invariant-loop-mark
invariant-loop-mark l = list_any (λ mark. mark) (take l.mark-index l.marks) ≡ false
