use Rattle.std.proofs.lemmas.Result.{err_from_is_err_and}
use Rattle.cert_text.specs.Grammar.{read_sides}
use Rattle.cert_text.proofs.Steps.{one_read, one_stopped, stays}
use Rattle.cert_text.proofs.grammar.sides.Goals as goal

pub returns-in_err-plus-clause-takes : goal.returns-in_err-plus-clause-takes
unfolding read_sides
returns-in_err-plus-clause-takes g c =
    let p = err_from_is_err_and c.from_residual.result c.from_residual.ensures.1 in
    rw (p.1, p.2, c.if-not-bounded.false) (one_stopped c.in_err-plus.field-0.0 _ c.in_err-plus.ensures.takes)

pub returns-in_err-minus-clause-takes : goal.returns-in_err-minus-clause-takes
unfolding read_sides
returns-in_err-minus-clause-takes g c =
    let p = err_from_is_err_and c.from_residual-in_err-minus.result c.from_residual-in_err-minus.ensures.1 in
    rw (p.1, p.2, c.if-not-bounded.false) (one_read _ c.in_ok-plus.ensures.takes (one_stopped c.in_err-minus.field-0.0 _ c.in_err-minus.ensures.takes))

pub returns-clause-takes : goal.returns-clause-takes
unfolding read_sides
returns-clause-takes g c = rw c.if-not-bounded.false (one_read _ c.in_ok-plus.ensures.takes (one_read _ c.in_ok-minus.ensures.takes stays))
