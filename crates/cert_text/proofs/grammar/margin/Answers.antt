use Rattle.std.proofs.lemmas.Result.{err_from_is_err_and}
use Rattle.cert_text.specs.Grammar.{read_margin}
use Rattle.cert_text.proofs.Steps.{one_passed, one_read, one_stopped, stays}
use Rattle.cert_text.proofs.grammar.margin.Goals as goal

pub returns-in_err-word-clause-takes : goal.returns-in_err-word-clause-takes
unfolding read_margin
returns-in_err-word-clause-takes g c =
    let p = err_from_is_err_and c.from_residual.result c.from_residual.ensures.1 in
    rw (p.1, p.2) (one_stopped c.in_err-word.field-0.0 _ c.in_err-word.ensures.takes)

pub returns-in_err-num-clause-takes : goal.returns-in_err-num-clause-takes
unfolding read_margin
returns-in_err-num-clause-takes g c =
    let p = err_from_is_err_and c.from_residual-in_err-num.result c.from_residual-in_err-num.ensures.1 in
    rw (p.1, p.2) (one_passed c.in_ok-word.ensures.takes (one_stopped c.in_err-num.field-0.0 _ c.in_err-num.ensures.takes))

pub returns-in_err-den-clause-takes : goal.returns-in_err-den-clause-takes
unfolding read_margin
returns-in_err-den-clause-takes g c =
    let p = err_from_is_err_and c.from_residual-in_err-den.result c.from_residual-in_err-den.ensures.1 in
    rw (p.1, p.2) (one_passed c.in_ok-word.ensures.takes (one_read _ c.in_ok-num.ensures.takes (one_stopped c.in_err-den.field-0.0 _ c.in_err-den.ensures.takes)))

pub returns-in_err-end_line-clause-takes : goal.returns-in_err-end_line-clause-takes
unfolding read_margin
returns-in_err-end_line-clause-takes g c =
    let p = err_from_is_err_and c.from_residual-in_err-end_line.result c.from_residual-in_err-end_line.ensures.1 in
    rw (p.1, p.2) (one_passed c.in_ok-word.ensures.takes (one_read _ c.in_ok-num.ensures.takes (one_read _ c.in_ok-den.ensures.takes (one_stopped c.in_err-end_line.field-0.0 _ c.in_err-end_line.ensures.takes))))

pub returns-in_err-demand-clause-takes : goal.returns-in_err-demand-clause-takes
unfolding read_margin
returns-in_err-demand-clause-takes g c =
    let p = err_from_is_err_and c.from_residual-in_err-demand.result c.from_residual-in_err-demand.ensures.1 in
    rw (p.1, p.2) (one_passed c.in_ok-word.ensures.takes (one_read _ c.in_ok-num.ensures.takes (one_read _ c.in_ok-den.ensures.takes (one_passed c.in_ok-end_line.ensures.takes (one_stopped c.in_err-demand.field-0.0 _ c.in_err-demand.ensures.takes)))))

pub returns-clause-takes : goal.returns-clause-takes
unfolding read_margin
returns-clause-takes g c =
    one_passed c.in_ok-word.ensures.takes (one_read _ c.in_ok-num.ensures.takes (one_read _ c.in_ok-den.ensures.takes (one_passed c.in_ok-end_line.ensures.takes (one_read _ c.in_ok-demand.ensures.takes stays))))
