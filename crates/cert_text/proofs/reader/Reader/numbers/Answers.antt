use Rattle.std.proofs.Common.{◌≡◌, ◌+◌, ◌++◌, ◌∷◌, [], length, length-append, arith}
use Rattle.cert_text.specs.Fits.{IsWord}
use Rattle.std.proofs.lemmas.Result.{err_from_is_err_and}
use Rattle.cert_text.specs.Reading.{read_next_number}
use Rattle.cert_text.proofs.Loop.{ends, stops_below, is_done, all_more}
use Rattle.cert_text.proofs.Taking.{took_one}
use Rattle.cert_text.proofs.reader.Reader.numbers.Goals as goal

pub returns-in_err-number-clause-takes : goal.returns-in_err-number-clause-takes
returns-in_err-number-clause-takes g c =
    let p = err_from_is_err_and c.from_residual.result c.from_residual.ensures.1 in
    let one = c.in_err-number.ensures.takes in
    rw (p.1, p.2) (record {
      told = λ t. c.loop.invariant.2.told (one.told t);
      reads = λ t. stops_below c.in_err-number.field-0.0 c.args.list.now.items _
          (ends read_next_number c.in_err-number.field-0.0 c.loop.list.items c.args.count c.loop.counter _ _ c.loop-test.true (one.reads t) (c.loop.invariant.2.reads (one.told t)));
    })

pub loop-preserved : goal.loop-preserved
loop-preserved g c =
    let longer : length (c.loop.list.items ++ c.in_ok-number.number ∷ []) ≡ length c.args.list.now.items + (c.loop.counter + 1) = simp length-append (omega arith) in
    let word : IsWord c.in_ok-number.number = omega arith in (
      rw c.in_ok-push.ensures.items longer,
      λ words. rw c.in_ok-push.ensures.items (all_more IsWord c.loop.list.items c.in_ok-number.number (c.loop.invariant.1 words) word),
      rw c.in_ok-push.ensures.items
          (took_one read_next_number _ c.loop.list.items c.args.count c.loop.counter c.in_ok-number.number _ _ _ c.loop-test.true c.loop.invariant.2 c.in_ok-number.ensures.takes),
    )

pub returns-clause-takes : goal.returns-clause-takes
returns-clause-takes g c = record {
  told = c.loop.invariant.2.told;
  reads = λ t. is_done read_next_number c.loop.list.items c.args.count c.loop.counter _ _ c.loop-test.false (c.loop.invariant.2.reads t);
}

pub returns-clause-count : goal.returns-clause-count
returns-clause-count g c = omega arith

pub returns-clause-words : goal.returns-clause-words
returns-clause-words g c = c.loop.invariant.1

pub returns-in_err-push-clause-takes : goal.returns-in_err-push-clause-takes
returns-in_err-push-clause-takes g c =
    let p = err_from_is_err_and c.from_residual-in_err-push.result c.from_residual-in_err-push.ensures.1 in
    rw (p.1, p.2) (record {
      told = λ t. c.loop.invariant.2.told (c.in_ok-number.ensures.takes.told t);
      reads = λ t. tt;
    })
