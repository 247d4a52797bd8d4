use Rattle.std.proofs.Common.{[]}
use Rattle.std.proofs.lemmas.Result.{err_from_is_err_and}
use Rattle.number_tables.specs.TakingDue.{LeavesAtLine}
use Rattle.number_tables.proofs.TakingDue.{fails_as}
use Rattle.ratio_witness.specs.Reading.{BeginsWithPair, BeginsWithPathCount, LeavesAtPair}
use Rattle.ratio_witness.specs.Text.{is_path_count}
use Rattle.ratio_witness.proofs.TakenLines.{count_missing, pair_read}
use Rattle.ratio_witness.proofs.reading.pair_paths.Goals as goal

pub returns-in_err-count : goal.returns-in_err-count
returns-in_err-count c = λ ls is.
    let p = err_from_is_err_and c.from_residual.result c.from_residual.ensures.1 in
    let after = c.path_count.new.lines in
    rw (p.1, p.2) (fails_as BeginsWithPathCount (LeavesAtLine [] is_path_count) BeginsWithPair LeavesAtPair c.in_err-count.field-0.0 c.args.lines.now after after ls
    (count_missing ls) (c.in_err-count.ensures ls is))

pub returns : goal.returns
returns c = λ ls is.
    pair_read c.in_ok-count.count c.paths.result c.args.lines.now c.path_count.new.lines c.paths.new.lines ls (c.in_ok-count.ensures ls is) c.paths.ensures
