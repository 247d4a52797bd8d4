use Rattle.std.proofs.Common.{List, Ok}
use Rattle.number_tables.specs.declared.line.NumLine.{NumLine}
use Rattle.number_tables.specs.TakingDue.{IsBefore, TakesDue}
use Rattle.hose_bound.specs.Lines.{BeginsWithBlocks, LeavesAtBlocks}
use Rattle.hose_bound.proofs.reader.take_blocks.Given as goal

abbrev pub invariant-loop : goal.invariant-loop
invariant-loop l =
    (ls : List NumLine) → IsBefore l.fn.lines ls →
    TakesDue (BeginsWithBlocks l.nodes l.counter) (LeavesAtBlocks l.nodes l.counter) (Ok l.list.items) l.fn.lines l.lines ls
