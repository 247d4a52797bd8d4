use Rattle.std.proofs.Common.{◌≡◌, ◌+◌, suc, [], List, length, Ok, Err, arith, subst}
use Rattle.std.proofs.lemmas.Result.{err_from_is_err_and}
use Rattle.te_model.specs.declared.route.PathShare.{PathShare}
use Rattle.number_tables.specs.Due.{has_count}
use Rattle.number_tables.specs.TakingDue.{TakesDue, LeavesAtLine}
use Rattle.fault_rates.specs.PairLines.{BeginsWithPair, BeginsWithPairs}
use Rattle.fault_rates.proofs.PairLines.{nothing_taken, one_pair_taken, pair_fails, pairs_taken}
use Rattle.fault_rates.proofs.reader.take_pairs.Goals as goal

pub loop-p-init : goal.loop-p-init
loop-p-init c = λ ls is. rw (c.new-grant.ensures.items, c.new-allocation.ensures.items) (nothing_taken c.args.lines.now ls is)

pub returns-in_err-rates-clause-takes : goal.returns-in_err-rates-clause-takes
returns-in_err-rates-clause-takes c = λ ls is.
    let taken = c.loop-p.invariant ls is in
    let e = c.in_err-rates.field-0.0 in
    let p = err_from_is_err_and c.from_residual.result c.from_residual.ensures.1 in
    rw (p.1, p.2)
    (pair_fails (BeginsWithPairs c.args.routes.now) c.args.lines.now c.loop-p.lines c.take_pair.new.lines c.args.routes.now c.loop-p.p c.loop-p.grant.items c.loop-p.allocation.items
    e ls c.loop-p-test.true taken
    (subst (λ (ps : List PathShare). TakesDue (BeginsWithPair (length ps)) (LeavesAtLine [] (has_count (1 + length ps))) (Err e) c.loop-p.lines c.take_pair.new.lines taken.more)
    c.paths_of.ensures (c.in_err-rates.ensures taken.more taken.left)))

pub loop-p-preserved : goal.loop-p-preserved
loop-p-preserved c = λ ls is.
    let taken = c.loop-p.invariant ls is in
    let next : c.loop-p.p + 1 ≡ suc c.loop-p.p = omega arith in
    rw (next, c.in_ok-push_rates.ensures.grant, c.in_ok-push_rates.ensures.allocation)
    (one_pair_taken c.args.lines.now c.loop-p.lines c.take_pair.new.lines c.args.routes.now c.loop-p.p c.loop-p.grant.items c.loop-p.allocation.items c.in_ok-rates.rates ls
    c.loop-p-test.true taken
    (subst (λ (ps : List PathShare). TakesDue (BeginsWithPair (length ps)) (LeavesAtLine [] (has_count (1 + length ps))) (Ok c.in_ok-rates.rates) c.loop-p.lines c.take_pair.new.lines taken.more)
    c.paths_of.ensures (c.in_ok-rates.ensures taken.more taken.left)))

pub returns-clause-takes : goal.returns-clause-takes
returns-clause-takes c = λ ls is.
    pairs_taken c.args.lines.now c.loop-p.lines c.args.routes.now c.loop-p.p
    (record { failures = c.args.failures; grant = c.new.result; allocation = c.new-2.result }) ls c.loop-p-test.false (rw (c.new.ensures, c.new-2.ensures) (c.loop-p.invariant ls is))
