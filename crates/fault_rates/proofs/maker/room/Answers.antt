use Rattle.std.proofs.Common.{◌≡◌, ◌∙◌, ◌+◌, suc, slice_index, arith, ap}
use Rattle.fault_rates.specs.Making.{room_on_link}
use Rattle.fault_rates.proofs.Raising.{no_link_yet, room_more}
use Rattle.fault_rates.proofs.maker.room.Goals as goal

pub loop-e-init : goal.loop-e-init
loop-e-init c = no_link_yet c.args.net.now c.args.sums.now c.args.counts.now c.args.limit

pub loop-e-preserved : goal.loop-e-preserved
loop-e-preserved c =
    let e = c.loop-e.e in
    let next : e + 1 ≡ suc e = omega arith in
    rw next
    (room_more c.args.net.now c.args.sums.now c.args.counts.now c.args.limit e c.loop-e.most c.room_on_link-most.result c.loop-e.invariant
    (c.requires.fit e (omega (arith, c.loop-e-test.true, c.requires.sums)))
    (c.room_on_link-most.ensures ∙ ap (λ k. room_on_link k (slice_index c.args.sums.now e) (slice_index c.args.counts.now e) c.loop-e.most) c.capacity_of.ensures))
