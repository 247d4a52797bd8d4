use Rattle.std.proofs.lemmas.Result.{err_from_is_err_and}
use Rattle.block_reader.proofs.Beginning.{routes_from_count, routes_stop}
use Rattle.block_reader.proofs.PartLaws.{pair_count_part}
use Rattle.block_reader.proofs.Reading.{reads_then, reads_err}
use Rattle.block_reader.proofs.opening.routes.Goals as goal

pub returns-in_err-count-clause-answers : goal.returns-in_err-count-clause-answers
returns-in_err-count-clause-answers g c = λ before.
    let p = err_from_is_err_and c.from_residual.result c.from_residual.ensures.1 in
    rw (p.1, p.2) (routes_stop _ _ _ c.args.lines.now c.args.limits.now c.in_err-count.field-0.0 (c.in_err-count.ensures.answers before))

pub returns-in_err-count-clause-reads : goal.returns-in_err-count-clause-reads
returns-in_err-count-clause-reads g c =
    let p = err_from_is_err_and c.from_residual.result c.from_residual.ensures.1 in
    rw (p.1, p.2) (reads_err _ _ _ c.in_err-count.field-0.0 c.in_err-count.ensures.reads)

pub returns-clause-answers : goal.returns-clause-answers
returns-clause-answers g c = λ before. routes_from_count _ _ _ _ _ _ c.args.limits.now c.in_ok-count.count c.pairs.result (c.in_ok-count.ensures.answers before) (c.pairs.ensures.answers before)

pub returns-clause-reads : goal.returns-clause-reads
returns-clause-reads g c = reads_then _ _ _ _ c.in_ok-count.count c.pairs.result c.in_ok-count.ensures.reads c.pairs.ensures.reads

pub read_part-requires-clause-part : goal.read_part-requires-clause-part
read_part-requires-clause-part g c = pair_count_part c.args.limits.now
