use Rattle.std.proofs.lemmas.Result.{err_from_is_err_and}
use Rattle.block_reader.proofs.BlockSteps.{weights_stop, weights_read, rows_stop, sides_read}
use Rattle.block_reader.proofs.block_lines.rest_of_block.Goals as goal

pub returns-in_err-number_line-clause-takes : goal.returns-in_err-number_line-clause-takes
returns-in_err-number_line-clause-takes g c =
    let room = c.args.room.now in
    let p = err_from_is_err_and c.from_residual.result c.from_residual.ensures.1 in
    rw (p.1, p.2) (weights_stop room.counts _ c.args.line c.in_err-number_line.field-0.0 _ _ room.weights c.in_err-number_line.ensures.takes)

pub returns-in_err-rows-clause-takes : goal.returns-in_err-rows-clause-takes
returns-in_err-rows-clause-takes g c =
    let room = c.args.room.now in
    let p = err_from_is_err_and c.from_residual-in_err-rows.result c.from_residual-in_err-rows.ensures.1 in
    let weights = weights_read room.counts _ c.args.line _ _ _ _ room.weights c.in_ok-number_line.ensures.takes in
    let rows = c.in_err-rows.ensures.takes in
    rw (p.1, p.2) (record {
      told = λ t. weights.told (rows.told t);
      reads = λ t.
          rows_stop room.counts c.lend.new.self.counts _ _ _ _ _ _ c.lend.ensures.counts c.lend.ensures.rows c.lend.new.self.width (weights.reads (rows.told t))
          c.in_err-rows.field-0.0 (rows.reads t);
    })

pub returns-clause-takes : goal.returns-clause-takes
returns-clause-takes g c =
    let room = c.args.room.now in
    let lend = c.lend.ensures in
    let weights = weights_read room.counts _ c.args.line _ _ _ _ room.weights c.in_ok-number_line.ensures.takes in
    let rows = c.in_ok-rows.ensures.takes in
    let sides = c.sides.ensures.takes in
    record {
      told = λ t. weights.told (rows.told (sides.told t));
      reads = λ t.
          let t1 = sides.told t in
          sides_read room.counts c.lend.new.self.counts _ _ _ _ _ _ lend.counts lend.rows c.lend.new.self.width (weights.reads (rows.told t1))
          _ _ _ _ _ _ _ _ _ _ lend.link lend.a lend.b lend.weights (rows.reads t1) (sides.reads t);
    }
