use Rattle.std.proofs.Common.{◌≡◌, Ok, arith, subst}
use Rattle.std.proofs.lemmas.Result.{err_from_is_err_and}
use Rattle.number_tables.specs.TakingDue.{TakesDue}
use Rattle.ratio_witness.specs.Reading.{BeginsWithRival, LeavesAtRival}
use Rattle.ratio_witness.proofs.TakenLines.{no_pairs, one_pair_more, pair_fails}
use Rattle.ratio_witness.proofs.reading.rival.Goals as goal

pub loop-init : goal.loop-init
loop-init c = λ ls is. rw c.new-rival.ensures.items (no_pairs c.args.lines.now ls is)

pub returns-in_err-paths : goal.returns-in_err-paths
returns-in_err-paths c = λ ls is.
    let p = err_from_is_err_and c.from_residual.result c.from_residual.ensures.1 in
    rw (p.1, p.2) (pair_fails c.args.pairs c.loop.counter c.loop.rival.items c.in_err-paths.field-0.0 c.args.lines.now c.loop.lines c.pair_paths.new.lines ls
    c.loop-test.true (c.loop.invariant ls is) c.in_err-paths.ensures)

pub loop-preserved : goal.loop-preserved
loop-preserved c = λ ls is.
    rw c.in_ok-push.ensures (one_pair_more c.loop.counter c.loop.rival.items c.in_ok-paths.paths c.args.lines.now c.loop.lines c.pair_paths.new.lines ls
    (c.loop.invariant ls is) c.in_ok-paths.ensures)

pub returns : goal.returns
returns c = λ ls is.
    let all : c.loop.counter ≡ c.args.pairs = omega arith in
    rw c.new.ensures (subst (λ n. TakesDue (BeginsWithRival n) (LeavesAtRival n) (Ok c.loop.rival.items) c.args.lines.now c.loop.lines ls) all (c.loop.invariant ls is))
