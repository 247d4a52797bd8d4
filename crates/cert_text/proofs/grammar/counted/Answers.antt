use Rattle.std.proofs.lemmas.Result.{err_from_is_err_and}
use Rattle.cert_text.specs.Grammar.{read_counted}
use Rattle.cert_text.specs.LineEnds.{read_line_end_after}
use Rattle.cert_text.proofs.Steps.{one_passed, one_read, one_stopped}
use Rattle.cert_text.proofs.grammar.counted.Goals as goal

pub returns-in_err-word-clause-takes : goal.returns-in_err-word-clause-takes
unfolding read_counted
returns-in_err-word-clause-takes g c =
    let p = err_from_is_err_and c.from_residual.result c.from_residual.ensures.1 in
    rw (p.1, p.2) (one_stopped c.in_err-word.field-0.0 _ c.in_err-word.ensures.takes)

pub returns-in_err-n-clause-takes : goal.returns-in_err-n-clause-takes
unfolding read_counted
returns-in_err-n-clause-takes g c =
    let p = err_from_is_err_and c.from_residual-in_err-n.result c.from_residual-in_err-n.ensures.1 in
    rw (p.1, p.2) (one_passed c.in_ok-word.ensures.takes (one_stopped c.in_err-n.field-0.0 _ c.in_err-n.ensures.takes))

pub returns-clause-takes : goal.returns-clause-takes
unfolding read_counted read_line_end_after
returns-clause-takes g c =
    one_passed c.in_ok-word.ensures.takes (one_read _ c.in_ok-n.ensures.takes c.line_end_after.ensures.takes)
