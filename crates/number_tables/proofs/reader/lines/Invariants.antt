use Rattle.std.proofs.Common.{length}
use Rattle.number_tables.specs.Leaving.{place_of}
use Rattle.number_tables.proofs.Body.{HasRead}
use Rattle.number_tables.proofs.reader.lines.Given as goal

abbrev pub invariant-loop-alloc : goal.invariant-loop-alloc
invariant-loop-alloc l = HasRead (place_of l.fn.r) (place_of l.r) l.lines.items

abbrev pub decreases-loop-alloc : goal.decreases-loop-alloc
decreases-loop-alloc l = length l.r.source.bytes.now
