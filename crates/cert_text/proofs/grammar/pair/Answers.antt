use Rattle.std.proofs.lemmas.Result.{err_from_is_err_and}
use Rattle.cert_text.specs.Grammar.{read_pair}
use Rattle.cert_text.proofs.Steps.{one_passed, one_read, one_stopped, stays}
use Rattle.cert_text.proofs.grammar.pair.Goals as goal

pub returns-in_err-src-clause-takes : goal.returns-in_err-src-clause-takes
unfolding read_pair
returns-in_err-src-clause-takes g c =
    let p = err_from_is_err_and c.from_residual.result c.from_residual.ensures.1 in
    rw (p.1, p.2) (one_stopped c.in_err-src.field-0.0 _ c.in_err-src.ensures.takes)

pub returns-in_err-dst-clause-takes : goal.returns-in_err-dst-clause-takes
unfolding read_pair
returns-in_err-dst-clause-takes g c =
    let p = err_from_is_err_and c.from_residual-in_err-dst.result c.from_residual-in_err-dst.ensures.1 in
    rw (p.1, p.2) (one_read _ c.in_ok-src.ensures.takes (one_stopped c.in_err-dst.field-0.0 _ c.in_err-dst.ensures.takes))

pub returns-in_err-count-clause-takes : goal.returns-in_err-count-clause-takes
unfolding read_pair
returns-in_err-count-clause-takes g c =
    let p = err_from_is_err_and c.from_residual-in_err-count.result c.from_residual-in_err-count.ensures.1 in
    rw (p.1, p.2) (one_read _ c.in_ok-src.ensures.takes (one_read _ c.in_ok-dst.ensures.takes (one_stopped c.in_err-count.field-0.0 _ c.in_err-count.ensures.takes)))

pub returns-in_err-end_line-clause-takes : goal.returns-in_err-end_line-clause-takes
unfolding read_pair
returns-in_err-end_line-clause-takes g c =
    let p = err_from_is_err_and c.from_residual-in_err-end_line.result c.from_residual-in_err-end_line.ensures.1 in
    rw (p.1, p.2) (one_read _ c.in_ok-src.ensures.takes (one_read _ c.in_ok-dst.ensures.takes (one_read _ c.in_ok-count.ensures.takes (one_stopped c.in_err-end_line.field-0.0 _ c.in_err-end_line.ensures.takes))))

pub returns-in_err-paths-clause-takes : goal.returns-in_err-paths-clause-takes
unfolding read_pair
returns-in_err-paths-clause-takes g c =
    let p = err_from_is_err_and c.from_residual-in_err-paths.result c.from_residual-in_err-paths.ensures.1 in
    rw (p.1, p.2) (one_read _ c.in_ok-src.ensures.takes (one_read _ c.in_ok-dst.ensures.takes (one_read _ c.in_ok-count.ensures.takes (one_passed c.in_ok-end_line.ensures.takes (one_stopped c.in_err-paths.field-0.0 _ c.in_err-paths.ensures.takes)))))

pub returns-clause-takes : goal.returns-clause-takes
unfolding read_pair
returns-clause-takes g c =
    one_read _ c.in_ok-src.ensures.takes (one_read _ c.in_ok-dst.ensures.takes (one_read _ c.in_ok-count.ensures.takes (one_passed c.in_ok-end_line.ensures.takes (one_read _ c.in_ok-paths.ensures.takes stays))))
