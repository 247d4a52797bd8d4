use Rattle.std.proofs.lemmas.Result.{err_from_is_err_and}
use Rattle.cert_text.proofs.BlockParts.{block_parts}
use Rattle.cert_text.proofs.Steps.{one_read, one_same, one_stopped}
use Rattle.cert_text.proofs.grammar.BlockLinesItem.read.Goals as goal

pub returns-in_err-line-clause-takes : goal.returns-in_err-line-clause-takes
returns-in_err-line-clause-takes g c =
    let p = err_from_is_err_and c.from_residual.result c.from_residual.ensures.1 in
    rw (p.1, p.2) (one_same (block_parts _ _ _) (one_stopped c.in_err-line.field-0.0 _ c.in_err-line.ensures.takes))

pub returns-clause-takes : goal.returns-clause-takes
returns-clause-takes g c = one_same (block_parts _ _ _) (one_read _ c.in_ok-line.ensures.takes c.rest.ensures.takes)
