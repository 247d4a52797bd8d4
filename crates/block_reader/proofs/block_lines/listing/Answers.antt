use Rattle.std.proofs.Common.{◌≡◌, ◌-◌, length, arith}
use Rattle.std.proofs.lemmas.Result.{err_from_is_err_and}
use Rattle.block_reader.proofs.BlockSteps.{listing_stops, listing_read}
use Rattle.block_reader.proofs.block_lines.listing.Goals as goal

pub returns-in_err-numbers-clause-takes : goal.returns-in_err-numbers-clause-takes
returns-in_err-numbers-clause-takes g c =
    let p = err_from_is_err_and c.from_residual-in_err-numbers.result c.from_residual-in_err-numbers.ensures.1 in
    let word = c.in_ok-word.ensures.takes in
    let numbers = c.in_err-numbers.ensures.takes in
    let same : length c.args.list.now - 0 ≡ length c.args.list.now = omega arith in
    rw (p.1, p.2) (record {
      told = λ t. word.told (numbers.told t);
      reads = λ t. listing_stops c.args.word.now _ _ _ _ same (word.reads (numbers.told t)) c.in_err-numbers.field-0.0 (numbers.reads t);
    })

pub returns-clause-takes : goal.returns-clause-takes
returns-clause-takes g c =
    let word = c.in_ok-word.ensures.takes in
    let numbers = c.in_ok-numbers.ensures.takes in
    let end = c.end_line.ensures.takes in
    let same : length c.args.list.now - 0 ≡ length c.args.list.now = omega arith in
    record {
      told = λ t. word.told (numbers.told (end.told t));
      reads = λ t.
          let t2 = end.told t in
          listing_read c.args.word.now _ _ _ _ same (word.reads (numbers.told t2)) _ _ c.end_line.result _ (numbers.reads t2) (end.reads t);
    }
