use Rattle.std.proofs.Common.{List, Ok}
use Rattle.number_tables.specs.declared.line.NumLine.{NumLine}
use Rattle.number_tables.specs.TakingDue.{IsBefore, TakesDue}
use Rattle.ratio_witness.specs.Reading.{BeginsWithRival, LeavesAtRival}
use Rattle.ratio_witness.proofs.reading.rival.Given as goal

abbrev pub invariant-loop : goal.invariant-loop
invariant-loop l =
    (ls : List NumLine) → IsBefore l.fn.lines ls → TakesDue (BeginsWithRival l.counter) (LeavesAtRival l.counter) (Ok l.rival.items) l.fn.lines l.lines ls
