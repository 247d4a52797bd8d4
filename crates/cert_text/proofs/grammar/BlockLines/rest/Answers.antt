use Rattle.std.proofs.lemmas.Result.{err_from_is_err_and}
use Rattle.cert_text.specs.BlockRest.{read_block_rest}
use Rattle.cert_text.proofs.Steps.{one_read, one_stopped, stays}
use Rattle.cert_text.proofs.grammar.BlockLines.rest.Goals as goal

pub returns-in_err-weights-clause-takes : goal.returns-in_err-weights-clause-takes
unfolding read_block_rest
returns-in_err-weights-clause-takes g c =
    let p = err_from_is_err_and c.from_residual.result c.from_residual.ensures.1 in
    rw (p.1, p.2) (one_stopped c.in_err-weights.field-0.0 _ c.in_err-weights.ensures.takes)

pub returns-in_err-rows-clause-takes : goal.returns-in_err-rows-clause-takes
unfolding read_block_rest
returns-in_err-rows-clause-takes g c =
    let p = err_from_is_err_and c.from_residual-in_err-rows.result c.from_residual-in_err-rows.ensures.1 in
    rw (p.1, p.2) (one_read _ c.in_ok-weights.ensures.takes (one_stopped c.in_err-rows.field-0.0 _ c.in_err-rows.ensures.takes))

pub returns-in_err-plus-clause-takes : goal.returns-in_err-plus-clause-takes
unfolding read_block_rest
returns-in_err-plus-clause-takes g c =
    let p = err_from_is_err_and c.from_residual-in_err-plus.result c.from_residual-in_err-plus.ensures.1 in
    rw (p.1, p.2) (one_read _ c.in_ok-weights.ensures.takes (one_read _ c.in_ok-rows.ensures.takes (one_stopped c.in_err-plus.field-0.0 _ c.in_err-plus.ensures.takes)))

pub returns-clause-takes : goal.returns-clause-takes
unfolding read_block_rest
returns-clause-takes g c =
    one_read _ c.in_ok-weights.ensures.takes (one_read _ c.in_ok-rows.ensures.takes (one_read _ c.in_ok-plus.ensures.takes stays))
