use Rattle.std.proofs.Common.{List, Ok}
use Rattle.number_tables.specs.declared.line.NumLine.{NumLine}
use Rattle.number_tables.specs.TakingDue.{IsBefore, TakesDue}
use Rattle.ratio_witness.specs.Reading.{BeginsWithPaths, LeavesAtPaths}
use Rattle.ratio_witness.proofs.reading.paths.Given as goal

abbrev pub invariant-loop : goal.invariant-loop
invariant-loop l =
    (ls : List NumLine) → IsBefore l.fn.lines ls → TakesDue (BeginsWithPaths l.counter) (LeavesAtPaths l.counter) (Ok l.paths.items) l.fn.lines l.lines ls
