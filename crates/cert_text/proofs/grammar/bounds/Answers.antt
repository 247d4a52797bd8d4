use Rattle.std.proofs.lemmas.Result.{err_from_is_err_and}
use Rattle.cert_text.specs.Grammar.{read_box}
use Rattle.cert_text.proofs.Steps.{one_passed, one_read, one_stopped, stays}
use Rattle.cert_text.proofs.grammar.bounds.Goals as goal

pub returns-in_err-word-clause-takes : goal.returns-in_err-word-clause-takes
unfolding read_box
returns-in_err-word-clause-takes g c =
    let p = err_from_is_err_and c.from_residual.result c.from_residual.ensures.1 in
    rw (p.1, p.2) (one_stopped c.in_err-word.field-0.0 _ c.in_err-word.ensures.takes)

pub returns-in_err-end_line-clause-takes : goal.returns-in_err-end_line-clause-takes
unfolding read_box
returns-in_err-end_line-clause-takes g c =
    let p = err_from_is_err_and c.from_residual-in_err-end_line.result c.from_residual-in_err-end_line.ensures.1 in
    rw (p.1, p.2) (one_passed c.in_ok-word.ensures.takes (one_stopped c.in_err-end_line.field-0.0 _ c.in_err-end_line.ensures.takes))

pub returns-in_err-lower-clause-takes : goal.returns-in_err-lower-clause-takes
unfolding read_box
returns-in_err-lower-clause-takes g c =
    let p = err_from_is_err_and c.from_residual-in_err-lower.result c.from_residual-in_err-lower.ensures.1 in
    rw (p.1, p.2) (one_passed c.in_ok-word.ensures.takes (one_passed c.in_ok-end_line.ensures.takes (one_stopped c.in_err-lower.field-0.0 _ c.in_err-lower.ensures.takes)))

pub returns-in_err-upper-clause-takes : goal.returns-in_err-upper-clause-takes
unfolding read_box
returns-in_err-upper-clause-takes g c =
    let p = err_from_is_err_and c.from_residual-in_err-upper.result c.from_residual-in_err-upper.ensures.1 in
    rw (p.1, p.2) (one_passed c.in_ok-word.ensures.takes (one_passed c.in_ok-end_line.ensures.takes (one_read _ c.in_ok-lower.ensures.takes (one_stopped c.in_err-upper.field-0.0 _ c.in_err-upper.ensures.takes))))

pub returns-clause-takes : goal.returns-clause-takes
unfolding read_box
returns-clause-takes g c =
    one_passed c.in_ok-word.ensures.takes (one_passed c.in_ok-end_line.ensures.takes (one_read _ c.in_ok-lower.ensures.takes (one_read _ c.in_ok-upper.ensures.takes stays)))
