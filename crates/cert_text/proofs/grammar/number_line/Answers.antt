use Rattle.std.proofs.Common.{[], ◌∷◌}
use Rattle.std.proofs.lemmas.Result.{err_from_is_err_and}
use Rattle.cert_text.specs.Grammar.{read_number_line}
use Rattle.cert_text.specs.LineEnds.{read_line_end_after}
use Rattle.cert_text.proofs.Steps.{one_read, one_fronted, one_stopped}
use Rattle.cert_text.proofs.grammar.number_line.Goals as goal

pub returns-in_err-first-clause-takes : goal.returns-in_err-first-clause-takes
unfolding read_number_line
returns-in_err-first-clause-takes g c =
    let p = err_from_is_err_and c.from_residual.result c.from_residual.ensures.1 in
    rw (p.1, p.2) (one_stopped c.in_err-first.field-0.0 _ c.in_err-first.ensures.takes)

pub returns-clause-takes : goal.returns-clause-takes
unfolding read_number_line read_line_end_after
returns-clause-takes g c =
    let first = c.in_ok-first.first in
    let front = rw c.in_ok-list.ensures.items at c.in_ok-push.ensures.items in
    one_read _ c.in_ok-first.ensures.takes (one_fronted (first ∷ []) (rw front at c.in_ok-numbers.ensures.takes) (rw c.new.ensures at c.line_end_after.ensures.takes))
