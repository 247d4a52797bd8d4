use Rattle.std.proofs.Common.{◌≡◌, Ok, arith, subst}
use Rattle.std.proofs.lemmas.Result.{err_from_is_err_and}
use Rattle.number_tables.specs.TakingDue.{TakesDue}
use Rattle.ratio_witness.specs.Reading.{BeginsWithPaths, LeavesAtPaths}
use Rattle.ratio_witness.proofs.TakenLines.{no_paths, one_path_more, path_fails}
use Rattle.ratio_witness.proofs.reading.paths.Goals as goal

pub loop-init : goal.loop-init
loop-init c = λ ls is. rw c.new-paths.ensures.items (no_paths c.args.lines.now ls is)

pub returns-in_err-path : goal.returns-in_err-path
returns-in_err-path c = λ ls is.
    let p = err_from_is_err_and c.from_residual.result c.from_residual.ensures.1 in
    rw (p.1, p.2) (path_fails c.args.count c.loop.counter c.loop.paths.items c.in_err-path.field-0.0 c.args.lines.now c.loop.lines c.path_share.new.lines ls
    c.loop-test.true (c.loop.invariant ls is) c.in_err-path.ensures)

pub loop-preserved : goal.loop-preserved
loop-preserved c = λ ls is.
    rw c.in_ok-push.ensures (one_path_more c.loop.counter c.loop.paths.items c.in_ok-path.path c.args.lines.now c.loop.lines c.path_share.new.lines ls
    (c.loop.invariant ls is) c.in_ok-path.ensures)

pub returns : goal.returns
returns c = λ ls is.
    let all : c.loop.counter ≡ c.args.count = omega arith in
    rw c.new.ensures (subst (λ n. TakesDue (BeginsWithPaths n) (LeavesAtPaths n) (Ok c.loop.paths.items) c.args.lines.now c.loop.lines ls) all (c.loop.invariant ls is))
