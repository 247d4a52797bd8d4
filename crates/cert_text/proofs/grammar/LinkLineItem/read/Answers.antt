use Rattle.std.proofs.lemmas.Result.{err_from_is_err_and}
use Rattle.cert_text.specs.Grammar.{read_link_line}
use Rattle.cert_text.specs.LineEnds.{read_line_end_after}
use Rattle.cert_text.proofs.Steps.{one_read, one_stopped}
use Rattle.cert_text.proofs.grammar.LinkLineItem.read.Goals as goal

pub returns-in_err-tail-clause-takes : goal.returns-in_err-tail-clause-takes
unfolding read_link_line
returns-in_err-tail-clause-takes g c =
    let p = err_from_is_err_and c.from_residual.result c.from_residual.ensures.1 in
    rw (p.1, p.2) (one_stopped c.in_err-tail.field-0.0 _ c.in_err-tail.ensures.takes)

pub returns-in_err-head-clause-takes : goal.returns-in_err-head-clause-takes
unfolding read_link_line
returns-in_err-head-clause-takes g c =
    let p = err_from_is_err_and c.from_residual-in_err-head.result c.from_residual-in_err-head.ensures.1 in
    rw (p.1, p.2) (one_read _ c.in_ok-tail.ensures.takes (one_stopped c.in_err-head.field-0.0 _ c.in_err-head.ensures.takes))

pub returns-in_err-capacity-clause-takes : goal.returns-in_err-capacity-clause-takes
unfolding read_link_line
returns-in_err-capacity-clause-takes g c =
    let p = err_from_is_err_and c.from_residual-in_err-capacity.result c.from_residual-in_err-capacity.ensures.1 in
    rw (p.1, p.2) (one_read _ c.in_ok-tail.ensures.takes (one_read _ c.in_ok-head.ensures.takes (one_stopped c.in_err-capacity.field-0.0 _ c.in_err-capacity.ensures.takes)))

pub returns-in_err-cost-clause-takes : goal.returns-in_err-cost-clause-takes
unfolding read_link_line
returns-in_err-cost-clause-takes g c =
    let p = err_from_is_err_and c.from_residual-in_err-cost.result c.from_residual-in_err-cost.ensures.1 in
    rw (p.1, p.2) (one_read _ c.in_ok-tail.ensures.takes (one_read _ c.in_ok-head.ensures.takes (one_read _ c.in_ok-capacity.ensures.takes (one_stopped c.in_err-cost.field-0.0 _ c.in_err-cost.ensures.takes))))

pub returns-clause-takes : goal.returns-clause-takes
unfolding read_link_line read_line_end_after
returns-clause-takes g c =
    one_read _ c.in_ok-tail.ensures.takes (one_read _ c.in_ok-head.ensures.takes (one_read _ c.in_ok-capacity.ensures.takes (one_read _ c.in_ok-cost.ensures.takes c.line_end_after.ensures.takes)))
