use Rattle.std.proofs.Common.{arith}
use Rattle.cover_search.proofs.Moves.{moved_on}
use Rattle.cover_search.proofs.search.walk_all.Goals as goal
use Rattle.cover_search.proofs.search.walk_all.Goals.{then-number_at-gt0, else-number_at-gt0}

pub loop-i-preserved : goal.loop-i-preserved
loop-i-preserved c =
    let so_far = c.loop-i.invariant in
    elim c.if-number_at-gt0.branch [
      | then-number_at-gt0 w ↦
          let walked = w.walk-then-number_at-gt0.ensures in
          let no_more = walked.no_more in
          let less = so_far.less in
          record {
            moved = rw w.transport-is (moved_on c.args.shares.now c.args.transport.now c.loop-i.transport w.walk-then-number_at-gt0.new.transport so_far.moved walked.moved);
            less = rw w.transport-is (omega (arith, no_more, less));
          }
      | else-number_at-gt0 w ↦ record { moved = rw w.transport-is so_far.moved; less = rw w.transport-is so_far.less }
    ]
