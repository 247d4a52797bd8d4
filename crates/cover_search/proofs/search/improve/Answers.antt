use Rattle.std.proofs.Common.{◌≡◌, slice_index, rules}
use Rattle.cover_search.proofs.Improving.{lowered_improves, moved_improves}
use Rattle.cover_search.proofs.search.improve.Goals as goal
use Rattle.cover_search.proofs.search.improve.Goals.{then-number_at-eq0, else-number_at-eq0}

pub walk_all-requires-clause-open : goal.walk_all-requires-clause-open
walk_all-requires-clause-open c = c.in_ok-reached.ensures.0.are_open (slice_index c.in_ok-reached.reached.sources c.in-Some.first)

pub returns : goal.returns
returns c =
    elim c.if-number_at-eq0.branch [
      | then-number_at-eq0 w ↦
          let none : slice_index c.in_ok-reached.reached.sources c.in-Some.first ≡ 0 = search rules in
          rw w.transport-is
          (lowered_improves c.args.shares.now c.args.transport.now w.lower.new.transport c.in_ok-reached.reached c.in-Some.first c.requires w.lower.ensures c.in-Some.ensures.0 none
          c.in-Some.ensures.2)
      | else-number_at-eq0 w ↦
          rw w.transport-is (moved_improves c.args.shares.now c.args.transport.now w.walk_all.new.transport w.walk_all.ensures.moved w.walk_all.ensures.less)
    ]
