use Rattle.std.proofs.lemmas.Result.{IfOk-weaker, err_from_is_err_and}
use Rattle.block_reader.proofs.Beginning.{fits_own, format_stops, head_from_format}
use Rattle.block_reader.proofs.Reading.{reads_then, reads_err}
use Rattle.block_reader.proofs.opening.format_and_head.Goals as goal

pub returns-in_err-first_line-clause-answers : goal.returns-in_err-first_line-clause-answers
returns-in_err-first_line-clause-answers g c = λ before.
    let p = err_from_is_err_and c.from_residual.result c.from_residual.ensures.1 in
    rw (p.1, p.2) (format_stops _ _ c.args.lines.now c.first_line.new.lines c.in_err-first_line.field-0.0 (c.in_err-first_line.ensures.answers before))

pub returns-in_err-first_line-clause-reads : goal.returns-in_err-first_line-clause-reads
returns-in_err-first_line-clause-reads g c =
    let p = err_from_is_err_and c.from_residual.result c.from_residual.ensures.1 in
    rw (p.1, p.2) (reads_err _ _ _ c.in_err-first_line.field-0.0 c.in_err-first_line.ensures.reads)

pub returns-clause-fits : goal.returns-clause-fits
returns-clause-fits g c =
    IfOk-weaker c.head.result _ _ (λ x fits. fits_own c.limits_of-limits.result c.in_ok-first_line.field-0 x c.limits_of-limits.ensures fits) c.head.ensures.fits

pub returns-clause-answers : goal.returns-clause-answers
returns-clause-answers g c = λ before.
    head_from_format _ _ _ c.args.lines.now c.first_line.new.lines c.head.new.lines c.limits_of-limits.result c.in_ok-first_line.field-0 c.head.result c.limits_of-limits.ensures
    (c.in_ok-first_line.ensures.answers before) (c.head.ensures.answers before)

pub returns-clause-reads : goal.returns-clause-reads
returns-clause-reads g c = reads_then _ _ _ _ c.in_ok-first_line.field-0 c.head.result c.in_ok-first_line.ensures.reads c.head.ensures.reads
