use Rattle.std.proofs.Common.{◌<◌, ◌≤◌, length, slice_index, arith, refl, sym, subst}
use Rattle.flow_sim.proofs.LossLaws.{booked_more, still, still_room}
use Rattle.flow_sim.proofs.serve.book_losses.Goals as goal

pub book_loss-requires-clause-within : goal.book_loss-requires-clause-within
book_loss-requires-clause-within c =
    let i = c.loop-i.i in
    let inside : i < length c.args.queue.now = omega arith in
    let same = still i c.args.queue.now c.args.served.now c.args.units.now c.args.lost.now c.loop-i.units c.loop-i.lost (slice_index c.args.queue.now i)
    c.requires.ascending inside refl c.loop-i.invariant in
    subst (λ x. slice_index c.args.served.now i ≤ x) (sym same.0) (c.requires.within i inside)

pub book_loss-requires-clause-room : goal.book_loss-requires-clause-room
book_loss-requires-clause-room c =
    let i = c.loop-i.i in
    let inside : i < length c.args.queue.now = omega arith in
    still_room i c.args.queue.now c.args.served.now c.args.units.now c.args.lost.now c.loop-i.units c.loop-i.lost (slice_index c.args.queue.now i)
    c.requires.ascending inside refl c.loop-i.invariant (c.requires.room i inside)

pub loop-i-preserved : goal.loop-i-preserved
loop-i-preserved c =
    let i = c.loop-i.i in
    let inside : i < length c.args.queue.now = omega arith in
    booked_more i c.args.queue.now c.args.served.now c.args.units.now c.args.lost.now c.loop-i.units c.loop-i.lost c.book_loss.new.units c.book_loss.new.lost
    (slice_index c.args.queue.now i) (slice_index c.args.served.now i) c.requires.ascending inside refl refl c.loop-i.invariant
    c.book_loss.ensures.served c.book_loss.ensures.lost c.book_loss.ensures.others
