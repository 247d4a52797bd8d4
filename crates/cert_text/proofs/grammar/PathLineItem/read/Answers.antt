use Rattle.std.proofs.lemmas.Result.{err_from_is_err_and}
use Rattle.cert_text.specs.Grammar.{read_path}
use Rattle.cert_text.specs.LineEnds.{read_line_end_after}
use Rattle.cert_text.proofs.Steps.{of_same, one_read, one_stopped}
use Rattle.cert_text.proofs.grammar.PathLineItem.read.Goals as goal

pub returns-in_err-links-clause-takes : goal.returns-in_err-links-clause-takes
unfolding read_path
returns-in_err-links-clause-takes g c =
    let p = err_from_is_err_and c.from_residual-in_err-links.result c.from_residual-in_err-links.ensures.1 in
    rw (p.1, p.2) (one_read _ c.in_ok-weight.ensures.takes (one_read _ c.in_ok-count.ensures.takes (one_stopped c.in_err-links.field-0.0 _ c.in_err-links.ensures.takes)))

pub returns-clause-takes : goal.returns-clause-takes
unfolding read_path read_line_end_after
returns-clause-takes g c =
    one_read _ c.in_ok-weight.ensures.takes (one_read _ c.in_ok-count.ensures.takes (one_read _ c.in_ok-links.ensures.takes c.line_end_after.ensures.takes))

pub returns-clause-fits : goal.returns-clause-fits
returns-clause-fits g c =
    of_same _ _ _ c.line_end_after.ensures.same
    (record {
      weight = search;
      hops = rw c.in_ok-links.ensures.fits.count c.in_ok-count.ensures.fits;
      links = c.in_ok-links.ensures.fits.each;
    })
