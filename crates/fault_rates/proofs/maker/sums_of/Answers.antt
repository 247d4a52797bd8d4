use Rattle.std.proofs.Common.{ℕ, List, length, slice_index, arith, ap}
use Rattle.fault_rates.proofs.Making.{even_small}
use Rattle.fault_rates.proofs.maker.sums_of.Goals as goal

pub add_by_count-requires-clause-room : goal.add_by_count-requires-clause-room
add_by_count-requires-clause-room c = λ e below.
    let routes = c.args.routes.now in
    let p_in = c.loop-p-test.true in
    let lent = c.deref_mut.ensures.value in
    let longer = ap (λ (l : List ℕ). length l) lent in
    let read = ap (λ (l : List ℕ). slice_index l e) lent in
    let few = even_small c.args.net.now routes (slice_index c.args.even.now) c.requires.can c.requires.small c.loop-p.p e (omega (arith, p_in)) in
    let count = c.loop-p.invariant.0 in
    omega (arith, few, read, c.loop-p.invariant.1 e (omega (arith, below, longer, count)), c.requires.can.pairs, p_in)
