use Rattle.std.proofs.Common.{ap, refl, Ok, Bool}
use Rattle.std.proofs.lemmas.Result.{err_from_is_err_and}
use Rattle.te_ports.specs.Shown.{shown_by}
use Rattle.command_files.proofs.Feeding.{fed_more, fed_on, fed_stops, fed_valid, fed_whole, may_follow}
use Rattle.command_files.proofs.certificates.feed_blocks.Goals as goal

pub block-requires-in-rest-clause-block : goal.block-requires-in-rest-clause-block
block-requires-in-rest-clause-block g c =
    fed_valid _ _ _ _ _ _ c.rest.reader c.next.new.self c.rest.feed _ c.rest.invariant (c.in_ok-next.ensures.valid (ap Ok c.if-branch.true)) c.block.ensures

pub block-requires-in-rest-clause-above : goal.block-requires-in-rest-clause-above
block-requires-in-rest-clause-above g c =
    may_follow g.F.BlockFeed.stands_for g.F.BlockFeed.given_head g.F.BlockFeed.least_link c.rest.reader c.next.new.self c.rest.feed _ c.rest.invariant.next c.block.ensures (c.in_ok-next.ensures.ascends (ap Ok c.if-branch.true)).0

pub rest-preserved : goal.rest-preserved
rest-preserved g c =
    let next = c.in_ok-next.ensures in
    fed_more _ _ _ _ _ _ _ _ _ _ _ _ c.rest.invariant (next.handed (ap Ok c.if-branch.true)) c.block-in-rest.ensures.fed c.block.ensures
    (next.ascends (ap Ok c.if-branch.true)).1 c.block-in-rest.ensures.rest next.name (next.steady (λ e. cc))
    (record { added = next.added; later = next.later; content = next.content })

pub returns-clause-whole : goal.returns-clause-whole
returns-clause-whole g c =
    let seen = shown_by g.D.Depot.content g.D.Depot.gave g.D.Depot.faults in
    fed_whole _ _ _ _ _ (seen c.rest.depot) (seen c.next.new.depot) _ _ c.rest.invariant (c.in_ok-next.ensures.whole (ap Ok c.if-branch.false))

pub returns-clause-reads : goal.returns-clause-reads
returns-clause-reads g c =
    let next = c.in_ok-next.ensures in
    fed_on _ _ _ _ _ _ _ _ _ c.rest.invariant (next.steady (λ e. cc)) (record { added = next.added; later = next.later; content = next.content })

pub returns-in_err-next-clause-reads : goal.returns-in_err-next-clause-reads
returns-in_err-next-clause-reads g c =
    let p = err_from_is_err_and c.from_residual-in_err-next.result c.from_residual-in_err-next.ensures.1 in
    let seen = shown_by g.D.Depot.content g.D.Depot.gave g.D.Depot.faults in
    let next = c.in_err-next.ensures in
    let f = c.in_err-next.field-0.0 in
    rw (p.1, p.2)
    (fed_stops _ _ _ Bool _ _ _ (seen c.rest.depot) (seen c.next.new.depot) c.rest.reader c.rest.feed f c.rest.invariant (next.refused f refl) next.failed next.steady
    (record { added = next.added; later = next.later; content = next.content }))
