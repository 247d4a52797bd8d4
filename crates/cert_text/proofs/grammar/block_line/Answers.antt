use Rattle.std.proofs.lemmas.Result.{err_from_is_err_and}
use Rattle.cert_text.specs.BlockLine.{read_block_line}
use Rattle.cert_text.specs.LineEnds.{read_line_end_after}
use Rattle.cert_text.proofs.Steps.{of_same, one_read, one_stopped}
use Rattle.cert_text.proofs.grammar.block_line.Goals as goal

pub returns-in_err-link-clause-takes : goal.returns-in_err-link-clause-takes
unfolding read_block_line
returns-in_err-link-clause-takes g c =
    let p = err_from_is_err_and c.from_residual.result c.from_residual.ensures.1 in
    rw (p.1, p.2) (one_stopped c.in_err-link.field-0.0 _ c.in_err-link.ensures.takes)

pub returns-in_err-a-clause-takes : goal.returns-in_err-a-clause-takes
unfolding read_block_line
returns-in_err-a-clause-takes g c =
    let p = err_from_is_err_and c.from_residual-in_err-a.result c.from_residual-in_err-a.ensures.1 in
    rw (p.1, p.2) (one_read _ c.in_ok-link.ensures.takes (one_stopped c.in_err-a.field-0.0 _ c.in_err-a.ensures.takes))

pub returns-in_err-b-clause-takes : goal.returns-in_err-b-clause-takes
unfolding read_block_line
returns-in_err-b-clause-takes g c =
    let p = err_from_is_err_and c.from_residual-in_err-b.result c.from_residual-in_err-b.ensures.1 in
    rw (p.1, p.2) (one_read _ c.in_ok-link.ensures.takes (one_read _ c.in_ok-a.ensures.takes (one_stopped c.in_err-b.field-0.0 _ c.in_err-b.ensures.takes)))

pub returns-in_err-rows-clause-takes : goal.returns-in_err-rows-clause-takes
unfolding read_block_line
returns-in_err-rows-clause-takes g c =
    let p = err_from_is_err_and c.from_residual-in_err-rows.result c.from_residual-in_err-rows.ensures.1 in
    rw (p.1, p.2) (one_read _ c.in_ok-link.ensures.takes (one_read _ c.in_ok-a.ensures.takes (one_read _ c.in_ok-b.ensures.takes (one_stopped c.in_err-rows.field-0.0 _ c.in_err-rows.ensures.takes))))

pub returns-clause-takes : goal.returns-clause-takes
unfolding read_block_line read_line_end_after
returns-clause-takes g c =
    one_read _ c.in_ok-link.ensures.takes (one_read _ c.in_ok-a.ensures.takes (one_read _ c.in_ok-b.ensures.takes (one_read _ c.in_ok-rows.ensures.takes c.line_end_after.ensures.takes)))

pub returns-clause-fits : goal.returns-clause-fits
returns-clause-fits g c = of_same _ _ c.line_end_after.result c.line_end_after.ensures.same c.in_ok-rows.ensures.fits
