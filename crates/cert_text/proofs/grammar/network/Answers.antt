use Rattle.std.proofs.lemmas.Result.{err_from_is_err_and}
use Rattle.cert_text.specs.Grammar.{read_network}
use Rattle.cert_text.proofs.Steps.{one_read, one_stopped, stays}
use Rattle.cert_text.proofs.grammar.network.Goals as goal

pub returns-in_err-nodes-clause-takes : goal.returns-in_err-nodes-clause-takes
unfolding read_network
returns-in_err-nodes-clause-takes g c =
    let p = err_from_is_err_and c.from_residual.result c.from_residual.ensures.1 in
    rw (p.1, p.2) (one_stopped c.in_err-nodes.field-0.0 _ c.in_err-nodes.ensures.takes)

pub returns-in_err-names-clause-takes : goal.returns-in_err-names-clause-takes
unfolding read_network
returns-in_err-names-clause-takes g c =
    let p = err_from_is_err_and c.from_residual-in_err-names.result c.from_residual-in_err-names.ensures.1 in
    rw (p.1, p.2) (one_read _ c.in_ok-nodes.ensures.takes (one_stopped c.in_err-names.field-0.0 _ c.in_err-names.ensures.takes))

pub returns-in_err-count-clause-takes : goal.returns-in_err-count-clause-takes
unfolding read_network
returns-in_err-count-clause-takes g c =
    let p = err_from_is_err_and c.from_residual-in_err-count.result c.from_residual-in_err-count.ensures.1 in
    rw (p.1, p.2) (one_read _ c.in_ok-nodes.ensures.takes (one_read _ c.in_ok-names.ensures.takes (one_stopped c.in_err-count.field-0.0 _ c.in_err-count.ensures.takes)))

pub returns-in_err-links-clause-takes : goal.returns-in_err-links-clause-takes
unfolding read_network
returns-in_err-links-clause-takes g c =
    let p = err_from_is_err_and c.from_residual-in_err-links.result c.from_residual-in_err-links.ensures.1 in
    rw (p.1, p.2) (one_read _ c.in_ok-nodes.ensures.takes (one_read _ c.in_ok-names.ensures.takes (one_read _ c.in_ok-count.ensures.takes (one_stopped c.in_err-links.field-0.0 _ c.in_err-links.ensures.takes))))

pub returns-clause-takes : goal.returns-clause-takes
unfolding read_network
returns-clause-takes g c =
    one_read _ c.in_ok-nodes.ensures.takes (one_read _ c.in_ok-names.ensures.takes (one_read _ c.in_ok-count.ensures.takes (one_read _ c.in_ok-links.ensures.takes stays)))
