use Rattle.std.proofs.Common.{◌≡◌, ◌+◌, ◌<◌, slice_index, refl, rules}
use Rattle.cover_search.specs.Transport.{destination_at, source_at}
use Rattle.cover_search.proofs.Reaching.{destination_fewer, destination_reached}
use Rattle.cover_search.proofs.reach.reach_destination.Goals as goal

pub returns-clause-reaching : goal.returns-clause-reaching
returns-clause-reaching c =
    let r = c.args.reached.now in
    let shares = c.args.shares.now in
    let k = c.args.k in
    let none : slice_index r.destinations (destination_at shares k) ≡ 0 = search rules in
    let there : 0 < slice_index r.sources (source_at shares k) = search rules in
    let over : 0 < slice_index c.args.transport.now.demand k = search rules in
    destination_reached shares c.args.transport.now r
    (record { sources = r.sources; destinations = c.put.new.numbers; forward = r.forward; backward = c.put-2.new.numbers; last = r.last + 1 })
    k c.requires.transport c.requires.reaching c.requires.share refl none there over c.put.ensures.count c.put-2.ensures.count c.put.ensures.put c.put-2.ensures.put refl refl

pub returns-clause-found : goal.returns-clause-found
returns-clause-found c = λ yes.
    let r = c.args.reached.now in
    let shares = c.args.shares.now in
    let k = c.args.k in
    let none : slice_index r.destinations (destination_at shares k) ≡ 0 = search rules in
    let there : 0 < slice_index r.sources (source_at shares k) = search rules in
    let over : 0 < slice_index c.args.transport.now.demand k = search rules in
    destination_fewer shares c.args.transport.now r
    (record { sources = r.sources; destinations = c.put.new.numbers; forward = r.forward; backward = c.put-2.new.numbers; last = r.last + 1 })
    k c.requires.transport c.requires.reaching c.requires.share refl none there over c.put.ensures.count c.put-2.ensures.count c.put.ensures.put c.put-2.ensures.put refl refl
