use Rattle.std.proofs.Common.{◌∙◌, slice_index, arith, refl}
use Rattle.cover_search.specs.Transport.{source_at}
use Rattle.cover_search.specs.Ways.{taken_at}
use Rattle.cover_search.proofs.Amounts.{added_same, taken_le}
use Rattle.cover_search.proofs.Moves.{demand_small, exchanged}
use Rattle.cover_search.proofs.transport.exchange.Goals as goal

pub add_at-requires-clause-room : goal.add_at-requires-clause-room
add_at-requires-clause-room c =
    let small = demand_small c.args.shares.now c.args.transport.now c.args.k c.requires.transport c.requires.share in
    let within = c.requires.sent in
    let at = c.take_at.ensures.taken c.args.k in
    let less = taken_le (slice_index c.args.transport.now.demand) c.args.back c.args.amount c.args.k in
    omega (arith, small, within, at, less)

pub returns-clause-moved : goal.returns-clause-moved
returns-clause-moved c =
    let old = c.args.transport.now in
    let counts = c.requires.transport.counts in
    exchanged c.args.shares.now old
    (record { tails = old.tails; heads = old.heads; demand = c.add_at.new.numbers; unsent = c.add_at-2.new.numbers; unreceived = old.unreceived })
    c.requires.transport refl refl c.args.k c.args.back c.args.amount c.requires.share c.requires.back c.requires.end c.requires.tight c.requires.sent c.requires.demand
    (record {
      heads = counts.heads;
      demand = c.add_at.ensures.count ∙ (c.take_at.ensures.count ∙ counts.demand);
      unsent = c.add_at-2.ensures.count ∙ (c.take_at-2.ensures.count ∙ counts.unsent);
      unreceived = counts.unreceived;
    })
    (λ i. c.add_at.ensures.added i ∙ added_same (slice_index c.take_at.new.numbers) (taken_at (slice_index old.demand) c.args.back c.args.amount) c.args.k c.args.amount i c.take_at.ensures.taken)
    (λ i. c.add_at-2.ensures.added i
    ∙ added_same (slice_index c.take_at-2.new.numbers) (taken_at (slice_index old.unsent) (source_at c.args.shares.now c.args.k) c.args.amount) (source_at c.args.shares.now c.args.back) c.args.amount i
    c.take_at-2.ensures.taken)
    refl
