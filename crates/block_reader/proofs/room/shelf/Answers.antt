use Rattle.std.proofs.Common.{◌∷◌, [], arith, length-append}
use Rattle.std.proofs.lemmas.List.Elements.{All-append, All-cons}
use Rattle.block_reader.specs.Room.{HasWidth}
use Rattle.block_reader.proofs.room.shelf.Goals as goal

pub loop-preserved : goal.loop-preserved
loop-preserved c =
    let so_far = c.loop.invariant in
    let nodes = c.args.nodes in
    let row = c.in_ok-row.row in
    rw c.in_ok-push.ensures.items (record {
      count = omega (arith, so_far.count, length-append c.loop.list.items (row ∷ []));
      widths = All-append (HasWidth nodes) _ _ so_far.widths (All-cons (HasWidth nodes) row [] c.in_ok-row.ensures (λ j d below. absurd (omega arith)));
    })
