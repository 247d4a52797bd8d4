use Rattle.std.proofs.Common.{◌<◌}
use Rattle.cover_search.specs.Ways.{IsMoved, open_amount}
use Rattle.cover_search.proofs.search.walk_all.Given as goal

abbrev pub invariant-loop-i : goal.invariant-loop-i
invariant-loop-i l = record {
  moved : IsMoved l.shares l.fn.transport l.transport;
  less : open_amount l.transport < open_amount l.fn.transport;
}
