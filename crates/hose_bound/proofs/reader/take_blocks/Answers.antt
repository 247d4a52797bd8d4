use Rattle.std.proofs.Common.{◌≡◌, Ok, arith, subst}
use Rattle.std.proofs.lemmas.Result.{err_from_is_err_and}
use Rattle.number_tables.specs.TakingDue.{TakesDue}
use Rattle.hose_bound.specs.Lines.{BeginsWithBlocks, LeavesAtBlocks}
use Rattle.hose_bound.proofs.TakenLines.{block_fails, no_blocks, one_block_more}
use Rattle.hose_bound.proofs.reader.take_blocks.Goals as goal

pub loop-init : goal.loop-init
loop-init c = λ ls is. rw c.new-list.ensures.items (no_blocks c.args.nodes c.args.lines.now ls is)

pub returns-in_err-block : goal.returns-in_err-block
returns-in_err-block c = λ ls is.
    let p = err_from_is_err_and c.from_residual.result c.from_residual.ensures.1 in
    rw (p.1, p.2) (block_fails c.args.nodes c.args.count c.loop.counter c.loop.list.items c.in_err-block.field-0.0 c.args.lines.now c.loop.lines c.take_block.new.lines ls
    c.loop-test.true (c.loop.invariant ls is) c.in_err-block.ensures)

pub loop-preserved : goal.loop-preserved
loop-preserved c = λ ls is.
    rw c.in_ok-push_block.ensures (one_block_more c.args.nodes c.loop.counter c.loop.list.items c.in_ok-block.block c.args.lines.now c.loop.lines c.take_block.new.lines ls
    (c.loop.invariant ls is) c.in_ok-block.ensures)

pub returns : goal.returns
returns c = λ ls is.
    let all : c.loop.counter ≡ c.args.count = omega arith in
    let nodes = c.args.nodes in
    rw c.new.ensures (subst (λ n. TakesDue (BeginsWithBlocks nodes n) (LeavesAtBlocks nodes n) (Ok c.loop.list.items) c.args.lines.now c.loop.lines ls) all (c.loop.invariant ls is))
