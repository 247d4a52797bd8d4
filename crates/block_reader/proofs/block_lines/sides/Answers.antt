use Rattle.std.proofs.lemmas.Result.{err_from_is_err_and}
use Rattle.block_reader.proofs.BlockSteps.{plus_stops, minus_stops, both_read}
use Rattle.block_reader.proofs.block_lines.sides.Goals as goal

pub returns-in_err-listing-clause-takes : goal.returns-in_err-listing-clause-takes
returns-in_err-listing-clause-takes g c =
    let p = err_from_is_err_and c.from_residual.result c.from_residual.ensures.1 in
    let plus = c.in_err-listing.ensures.takes in
    rw (p.1, p.2) (record {
      told = plus.told;
      reads = λ t. plus_stops c.args.bounded c.args.pairs _ _ _ c.if-bounded.true c.requires.plus c.requires.minus c.in_err-listing.field-0.0 (plus.reads t);
    })

pub returns-in_err-listing-2-clause-takes : goal.returns-in_err-listing-2-clause-takes
returns-in_err-listing-2-clause-takes g c =
    let p = err_from_is_err_and c.from_residual-in_err-listing-2.result c.from_residual-in_err-listing-2.ensures.1 in
    let plus = c.in_ok-listing.ensures.takes in
    let minus = c.in_err-listing-2.ensures.takes in
    rw (p.1, p.2) (record {
      told = λ t. plus.told (minus.told t);
      reads = λ t.
          minus_stops c.args.bounded c.args.pairs _ _ _ c.if-bounded.true c.requires.plus c.requires.minus _ _ (plus.reads (minus.told t)) c.in_err-listing-2.field-0.0 (minus.reads t);
    })

pub returns-in_ok-listing-2-clause-takes : goal.returns-in_ok-listing-2-clause-takes
returns-in_ok-listing-2-clause-takes g c =
    let plus = c.in_ok-listing.ensures.takes in
    let minus = c.in_ok-listing-2.ensures.takes in
    record {
      told = λ t. plus.told (minus.told t);
      reads = λ t. both_read c.args.bounded c.args.pairs _ _ _ c.if-bounded.true c.requires.plus c.requires.minus _ _ _ _ (plus.reads (minus.told t)) (minus.reads t);
    }
