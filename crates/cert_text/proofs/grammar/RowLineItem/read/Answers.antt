use Rattle.std.proofs.Common.{ℕ, List, Result, Ok}
use Rattle.std.proofs.lemmas.Result.{err_from_is_err_and}
use Rattle.te_model.specs.declared.certificate.Row.{Row}
use Rattle.cert_text.specs.Place.{Place}
use Rattle.cert_text.specs.Grammar.{read_row}
use Rattle.cert_text.specs.LineEnds.{read_last_numbers}
use Rattle.cert_text.proofs.Steps.{list_then, one_read, one_same, one_stopped, stays}
use Rattle.cert_text.proofs.grammar.RowLineItem.read.Goals as goal

row_of : ℕ → List ℕ × Place → Result (Row × Place) ℕ
row_of source potential = Ok (record { source = source; potential = potential.0 }, potential.1)

pub returns-in_err-source-clause-takes : goal.returns-in_err-source-clause-takes
unfolding read_row
returns-in_err-source-clause-takes g c =
    let p = err_from_is_err_and c.from_residual.result c.from_residual.ensures.1 in
    rw (p.1, p.2) (one_stopped c.in_err-source.field-0.0 _ c.in_err-source.ensures.takes)

pub returns-in_err-potential-clause-takes : goal.returns-in_err-potential-clause-takes
unfolding read_row read_last_numbers row_of
returns-in_err-potential-clause-takes g c =
    let p = err_from_is_err_and c.from_residual-in_err-potential.result c.from_residual-in_err-potential.ensures.1 in
    let next = row_of c.in_ok-source.source in
    rw (p.1, p.2) (one_read _ c.in_ok-source.ensures.takes (one_same (λ p. list_then next _) (one_stopped c.in_err-potential.field-0.0 next c.in_err-potential.ensures.takes)))

pub returns-clause-takes : goal.returns-clause-takes
unfolding read_row read_last_numbers row_of
returns-clause-takes g c =
    let next = row_of c.in_ok-source.source in
    one_read _ c.in_ok-source.ensures.takes (one_same (λ p. list_then next _) (one_read next c.in_ok-potential.ensures.takes stays))
