use Rattle.std.proofs.Common.{◌∙◌, arith, refl}
use Rattle.cover_search.proofs.Moves.{demand_small, sent_over}
use Rattle.cover_search.proofs.transport.send.Goals as goal

pub add_at-requires-clause-room : goal.add_at-requires-clause-room
add_at-requires-clause-room c =
    let small = demand_small c.args.shares.now c.args.transport.now c.args.k c.requires.transport c.requires.share in
    let within = c.requires.sent in
    omega (arith, small, within)

pub returns-clause-moved : goal.returns-clause-moved
returns-clause-moved c =
    let old = c.args.transport.now in
    let counts = c.requires.transport.counts in
    sent_over c.args.shares.now old
    (record { tails = old.tails; heads = old.heads; demand = c.add_at.new.numbers; unsent = c.take_at.new.numbers; unreceived = c.take_at-2.new.numbers })
    c.requires.transport refl refl c.args.k c.args.amount c.requires.share c.requires.tight c.requires.sent c.requires.received
    (record { heads = counts.heads; demand = c.add_at.ensures.count ∙ counts.demand; unsent = c.take_at.ensures.count ∙ counts.unsent; unreceived = c.take_at-2.ensures.count ∙ counts.unreceived })
    c.add_at.ensures.added c.take_at.ensures.taken c.take_at-2.ensures.taken
