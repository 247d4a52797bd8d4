use Rattle.std.proofs.Common.{List, take}
use Rattle.number_tables.specs.declared.line.NumLine.{NumLine}
use Rattle.number_tables.specs.TakingDue.{IsBefore}
use Rattle.fault_rates.proofs.PairLines.{HasTaken}
use Rattle.fault_rates.proofs.reader.take_pairs.Given as goal

abbrev pub invariant-loop-p : goal.invariant-loop-p
invariant-loop-p l =
    (ls : List NumLine) → IsBefore l.fn.lines ls → HasTaken l.fn.lines l.lines (take l.p l.routes) l.grant.items l.allocation.items ls
