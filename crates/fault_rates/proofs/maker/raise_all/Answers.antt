use Rattle.std.proofs.Common.{◌≡◌, ◌+◌, suc, length, slice_index, arith}
use Rattle.std.proofs.lemmas.List.{get_or-set_other, get_or-set_same, length-set}
use Rattle.fault_rates.proofs.Making.{even_small}
use Rattle.fault_rates.proofs.Raising.{one_pair_raised}
use Rattle.fault_rates.proofs.maker.raise_all.Goals as goal

pub add_by_count-requires-clause-room : goal.add_by_count-requires-clause-room
add_by_count-requires-clause-room c = λ e below.
    let routes = c.args.routes.now in
    let before = c.loop-p.invariant in
    let few = even_small c.args.net.now routes (slice_index c.loop-p.even) c.requires.can (λ p p_in. omega (arith, before.within p p_in, c.requires.small p p_in)) (length routes) e (omega arith) in
    let count = before.on_links.0 in
    omega (arith, few, before.on_links.1 e (omega (arith, below, count)), c.requires.can.pairs)

pub loop-p-preserved : goal.loop-p-preserved
loop-p-preserved c =
    let p = c.loop-p.p in
    let even = c.loop-p.even in
    let more = c.room-more.result in
    let p_in = c.loop-p-test.true in
    let before = c.loop-p.invariant in
    let next : p + 1 ≡ suc p = omega arith in
    rw next
    (one_pair_raised c.args.net.now c.args.routes.now c.args.caps.now even c.loop-p.sums c.paths_of_pair_on_links-counts.result _ c.add_by_count.new.sums p more p_in before
    c.paths_of_pair_on_links-counts.ensures.each c.room-more.ensures (length-set even p (slice_index even p + more)) c.add_by_count.auto.sums
    (get_or-set_same even p (slice_index even p + more) 0 (let count = before.count in omega (arith, p_in, count)))
    (λ q other. get_or-set_other even p q (slice_index even p + more) 0 other)
    c.add_by_count.ensures)
