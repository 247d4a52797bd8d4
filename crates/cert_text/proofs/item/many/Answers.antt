use Rattle.std.proofs.Common.{arith}
use Rattle.std.proofs.lemmas.Result.{err_from_is_err_and}
use Rattle.cert_text.proofs.Loop.{listed_all}
use Rattle.cert_text.proofs.Taking.{one_more, no_more, all_taken}
use Rattle.cert_text.proofs.item.many.Goals as goal

pub returns-in_err-next-clause-takes : goal.returns-in_err-next-clause-takes
returns-in_err-next-clause-takes g c =
    let p = err_from_is_err_and c.from_residual-in_err-next.result c.from_residual-in_err-next.ensures.1 in
    rw (p.1, p.2) (no_more _ c.in_err-next.field-0.0 c.loop.invariant c.loop-test.true c.in_err-next.ensures.takes)

pub loop-preserved : goal.loop-preserved
loop-preserved g c = rw c.in_ok-push.ensures.items (one_more _ c.in_ok-next.next c.loop.invariant c.loop-test.true c.in_ok-next.ensures.fits c.in_ok-next.ensures.takes)

pub returns-clause-takes : goal.returns-clause-takes
returns-clause-takes g c = rw c.new.ensures (all_taken c.loop.invariant c.loop-test.false)

pub returns-clause-fits : goal.returns-clause-fits
returns-clause-fits g c = rw c.new.ensures (listed_all (g.T.Item.Fits c.args.item.now) c.loop.items.items c.loop.counter c.args.count c.loop.invariant.fits (omega arith))

pub returns-in_err-push-clause-takes : goal.returns-in_err-push-clause-takes
returns-in_err-push-clause-takes g c =
    let p = err_from_is_err_and c.from_residual-in_err-push.result c.from_residual-in_err-push.ensures.1 in
    rw (p.1, p.2) (record {
      told = λ t. c.loop.invariant.takes.told (c.in_ok-next.ensures.takes.told t);
      reads = λ t. tt;
    })
