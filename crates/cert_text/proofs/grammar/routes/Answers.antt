use Rattle.std.proofs.lemmas.Result.{err_from_is_err_and}
use Rattle.cert_text.specs.Grammar.{read_routes}
use Rattle.cert_text.proofs.Steps.{one_read, one_stopped}
use Rattle.cert_text.proofs.grammar.routes.Goals as goal

pub returns-in_err-count-clause-takes : goal.returns-in_err-count-clause-takes
unfolding read_routes
returns-in_err-count-clause-takes g c =
    let p = err_from_is_err_and c.from_residual.result c.from_residual.ensures.1 in
    rw (p.1, p.2) (one_stopped c.in_err-count.field-0.0 _ c.in_err-count.ensures.takes)

pub returns-clause-takes : goal.returns-clause-takes
unfolding read_routes
returns-clause-takes g c =
    one_read _ c.in_ok-count.ensures.takes c.many.ensures.takes
