use Rattle.std.proofs.Common.{take}
use Rattle.step_detail.proofs.Steps.{AreLinesOf}
use Rattle.step_detail.proofs.writer.breakdown_text.Given as goal

abbrev pub invariant-loop-name : goal.invariant-loop-name
invariant-loop-name l =
    AreLinesOf (take l.name-index l.plan.schemes) l.breakdown l.plan l.network l.traffic l.failures l.step l.costs l.text.items
