use Rattle.std.proofs.Common.{◌∙◌, ◌<◌, ◌+◌, length, take, sym, ap, subst, arith}
use Rattle.std.proofs.lemmas.List.{take_more_set, length-set}
use Rattle.std.proofs.lemmas.Result.{err_from_is_err_and}
use Rattle.cert_text.specs.Fits.{AreWords, IsWord}
use Rattle.cert_text.specs.Reading.{read_next_number}
use Rattle.cert_text.proofs.Loop.{ends, stops_below, all_more}
use Rattle.block_reader.proofs.Placing.{goes_on_in, is_done_in}
use Rattle.block_reader.proofs.block_lines.numbers.Goals as goal

pub returns-in_err-number-clause-takes : goal.returns-in_err-number-clause-takes
returns-in_err-number-clause-takes g c =
    let p = err_from_is_err_and c.from_residual.result c.from_residual.ensures.1 in
    let so_far = c.loop-k.invariant.2 in
    let one = c.in_err-number.ensures.takes in
    let below : c.loop-k.k < length c.args.list.now = omega (arith, c.loop-k-test.true, ap length c.as_slice-count.ensures) in
    rw (p.1, p.2) (record {
      told = λ t. so_far.told (one.told t);
      reads = λ t. stops_below c.in_err-number.field-0.0 (take c.args.from c.args.list.now) _
          (ends read_next_number c.in_err-number.field-0.0 (take c.loop-k.k c.loop-k.list) (length c.args.list.now) c.loop-k.k _ _ below (one.reads t) (so_far.reads (one.told t)));
    })

pub loop-k-preserved : goal.loop-k-preserved
loop-k-preserved g c =
    let so_far = c.loop-k.invariant.2 in
    let one = c.in_ok-number.ensures.takes in
    let below : c.loop-k.k < length c.args.list.now = omega (arith, c.loop-k-test.true, ap length c.as_slice-count.ensures) in
    let inside : c.loop-k.k < length c.loop-k.list = omega (arith, below, c.loop-k.invariant.0) in
    let word : IsWord c.in_ok-number.number = omega arith in (
      ap length c.set.ensures ∙ length-set c.loop-k.list c.loop-k.k c.in_ok-number.number ∙ c.loop-k.invariant.0,
      λ words. subst AreWords (sym (ap (take (c.loop-k.k + 1)) c.set.ensures ∙ take_more_set c.loop-k.list c.loop-k.k c.in_ok-number.number inside))
          (all_more IsWord (take c.loop-k.k c.loop-k.list) c.in_ok-number.number (c.loop-k.invariant.1 words) word),
      record {
        told = λ t. so_far.told (one.told t);
        reads = λ t. goes_on_in read_next_number c.loop-k.list c.set.new.self (length c.args.list.now) c.loop-k.k _ c.in_ok-number.number _ _ below inside c.set.ensures (one.reads t) (so_far.reads (one.told t));
      },
    )

pub returns-clause-takes : goal.returns-clause-takes
returns-clause-takes g c = record {
  told = c.loop-k.invariant.2.told;
  reads = λ t.
      is_done_in read_next_number c.loop-k.list (length c.args.list.now) c.loop-k.k _ _
      (omega (arith, c.loop-k-test.false, ap length c.as_slice-count.ensures)) c.loop-k.invariant.0 (c.loop-k.invariant.2.reads t);
}
