use Rattle.std.proofs.Common.{◌+◌, ◌<◌, ◌≤◌, slice_index}
use Rattle.cover_search.specs.Ways.{AreOpen, IsMoved, open_amount}
use Rattle.cover_search.proofs.Improving.{IsOnWay}
use Rattle.cover_search.proofs.search.walk.Given as goal

abbrev pub invariant-loop : goal.invariant-loop
invariant-loop l = record {
  moved : IsMoved l.shares l.fn.transport l.transport;
  no_more : open_amount l.transport ≤ open_amount l.fn.transport;
  order : slice_index l.reached.sources l.place + l.counter ≤ slice_index l.reached.sources l.source;
  way : 0 < slice_index l.reached.sources l.source → 0 < slice_index l.fn.transport.tails l.source → 0 < slice_index l.fn.transport.unsent l.source →
      AreOpen l.fn.transport l.reached (slice_index l.reached.sources l.source) → IsOnWay l.fn.transport l.transport l.reached l.place;
}
