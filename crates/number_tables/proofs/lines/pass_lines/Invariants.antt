use Rattle.std.proofs.Common.{length}
use Rattle.number_tables.specs.Leaving.{place_of}
use Rattle.number_tables.proofs.PassingLines.{HasPassed}
use Rattle.number_tables.proofs.lines.pass_lines.Given as goal

abbrev pub invariant-lines : goal.invariant-lines
invariant-lines l = HasPassed (place_of l.fn.r) (place_of l.r)

abbrev pub decreases-lines : goal.decreases-lines
decreases-lines l = length l.r.source.bytes.now
