use Rattle.std.proofs.Common.{◌<◌, ◌≤◌, slice_index, length, arith}
use Rattle.std.proofs.lemmas.List.Elements.{All-get_or}
use Rattle.routing.proofs.TakingOff.{enough_left, take_step}
use Rattle.routing.proofs.decomposition.take_off.Goals as goal

pub overflow_sub-flow : goal.overflow_sub-flow
overflow_sub-flow c =
    let path = c.args.path.now in
    let i = c.loop-h.h-index in
    let enough = All-get_or (λ h. c.args.weight ≤ slice_index c.args.flow.now h) path i 0 c.loop-h-test.true c.requires.enough in
    enough_left c.args.flow.now c.loop-h.flow path c.args.weight i (c.loop-h.invariant (slice_index path i)) c.requires.distinct c.loop-h-test.true enough

pub loop-h-preserved : goal.loop-h-preserved
loop-h-preserved c h =
    let path = c.args.path.now in
    let i = c.loop-h.h-index in
    let inside = All-get_or (λ h. h < length c.args.flow.now) path i 0 c.loop-h-test.true c.requires.links in
    take_step c.args.flow.now c.loop-h.flow path c.args.weight i h (c.loop-h.invariant h) c.requires.distinct c.loop-h-test.true
    (omega (arith, inside, c.loop-h.auto.flow)) (overflow_sub-flow c)
