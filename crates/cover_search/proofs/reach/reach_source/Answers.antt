use Rattle.std.proofs.Common.{◌≡◌, ◌+◌, ◌<◌, slice_index, refl, rules}
use Rattle.cover_search.specs.Transport.{IsTight, destination_at, source_at}
use Rattle.cover_search.proofs.Reaching.{source_fewer, source_reached}
use Rattle.cover_search.proofs.reach.reach_source.Goals as goal

pub returns-clause-reaching : goal.returns-clause-reaching
returns-clause-reaching c =
    let r = c.args.reached.now in
    let shares = c.args.shares.now in
    let k = c.args.k in
    let none : slice_index r.sources (source_at shares k) ≡ 0 = search rules in
    let there : 0 < slice_index r.destinations (destination_at shares k) = search rules in
    let tight : IsTight shares c.args.transport.now k = search rules in
    source_reached shares c.args.transport.now r
    (record { sources = c.put.new.numbers; destinations = r.destinations; forward = c.put-2.new.numbers; backward = r.backward; last = r.last + 1 })
    k c.requires.transport c.requires.reaching c.requires.share refl none there tight c.put.ensures.count c.put-2.ensures.count c.put.ensures.put c.put-2.ensures.put refl refl

pub returns-clause-found : goal.returns-clause-found
returns-clause-found c = λ yes.
    let r = c.args.reached.now in
    let shares = c.args.shares.now in
    let k = c.args.k in
    let none : slice_index r.sources (source_at shares k) ≡ 0 = search rules in
    let there : 0 < slice_index r.destinations (destination_at shares k) = search rules in
    let tight : IsTight shares c.args.transport.now k = search rules in
    source_fewer shares c.args.transport.now r
    (record { sources = c.put.new.numbers; destinations = r.destinations; forward = c.put-2.new.numbers; backward = r.backward; last = r.last + 1 })
    k c.requires.transport c.requires.reaching c.requires.share refl none there tight c.put.ensures.count c.put-2.ensures.count c.put.ensures.put c.put-2.ensures.put refl refl
