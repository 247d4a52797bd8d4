use Rattle.std.proofs.lemmas.Result.{err_from_is_err_and}
use Rattle.cert_text.specs.Grammar.{read_head}
use Rattle.cert_text.proofs.Steps.{one_read, one_stopped, stays}
use Rattle.cert_text.proofs.grammar.head.Goals as goal

pub returns-in_err-network-clause-takes : goal.returns-in_err-network-clause-takes
unfolding read_head
returns-in_err-network-clause-takes g c =
    let p = err_from_is_err_and c.from_residual.result c.from_residual.ensures.1 in
    rw (p.1, p.2) (one_stopped c.in_err-network.field-0.0 _ c.in_err-network.ensures.takes)

pub returns-in_err-routes-clause-takes : goal.returns-in_err-routes-clause-takes
unfolding read_head
returns-in_err-routes-clause-takes g c =
    let p = err_from_is_err_and c.from_residual-in_err-routes.result c.from_residual-in_err-routes.ensures.1 in
    rw (p.1, p.2) (one_read _ c.in_ok-network.ensures.takes (one_stopped c.in_err-routes.field-0.0 _ c.in_err-routes.ensures.takes))

pub returns-in_err-set-clause-takes : goal.returns-in_err-set-clause-takes
unfolding read_head
returns-in_err-set-clause-takes g c =
    let p = err_from_is_err_and c.from_residual-in_err-set.result c.from_residual-in_err-set.ensures.1 in
    let set = rw c.as_slice.ensures at c.in_err-set.ensures.takes in
    rw (p.1, p.2) (one_read _ c.in_ok-network.ensures.takes (one_read _ c.in_ok-routes.ensures.takes (one_stopped c.in_err-set.field-0.0 _ set)))

pub returns-in_err-ratio-clause-takes : goal.returns-in_err-ratio-clause-takes
unfolding read_head
returns-in_err-ratio-clause-takes g c =
    let p = err_from_is_err_and c.from_residual-in_err-ratio.result c.from_residual-in_err-ratio.ensures.1 in
    let set = rw c.as_slice.ensures at c.in_ok-set.ensures.takes in
    rw (p.1, p.2) (one_read _ c.in_ok-network.ensures.takes (one_read _ c.in_ok-routes.ensures.takes (one_read _ set (one_stopped c.in_err-ratio.field-0.0 _ c.in_err-ratio.ensures.takes))))

pub returns-clause-takes : goal.returns-clause-takes
unfolding read_head
returns-clause-takes g c =
    let set = rw c.as_slice.ensures at c.in_ok-set.ensures.takes in
    one_read _ c.in_ok-network.ensures.takes (one_read _ c.in_ok-routes.ensures.takes (one_read _ set (one_read _ c.in_ok-ratio.ensures.takes stays)))
