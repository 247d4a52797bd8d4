use Rattle.std.proofs.Common.{◌≡◌, ℕ, ◌+◌, ◌^◌, ◌<◌, length, slice_index}
use Rattle.cover_search.specs.Transport.{IsTransport, cover_amount, received_at, sent_at}
use Rattle.cover_search.specs.Ways.{open_amount}
use Rattle.cover_search.proofs.search.least_cover.Given as goal

abbrev pub invariant-loop : goal.invariant-loop
invariant-loop l = record {
  transport : IsTransport l.shares l.transport;
  count : length l.transport.tails ≡ length l.fn.tails;
  sends : (i : ℕ) → sent_at l.shares l.transport i ≡ slice_index l.sent i;
  receives : (i : ℕ) → received_at l.shares l.transport i ≡ slice_index l.received i;
  rest : cover_amount l.shares l.transport + open_amount l.transport + l.counter < 2 ^ 63;
}
