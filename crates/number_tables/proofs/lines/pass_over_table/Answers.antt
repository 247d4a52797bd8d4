-- The clauses, of what is passed.
use Rattle.std.proofs.Common.{sym, ap, subst, ◌∙◌, Ok, Err}
use Rattle.std.proofs.lemmas.Result.{err_from_is_err_and}
use Rattle.cert_text.specs.Place.{Place, place}
use Rattle.number_tables.specs.Passing.{PassesLines}
use Rattle.number_tables.specs.Table.{table_lines}
use Rattle.number_tables.proofs.PassingLines.{AnswersWhether, ok_whether, err_whether}
use Rattle.number_tables.proofs.lines.pass_over_table.Goals as goal

pub returns-in_err-pass_table : goal.returns-in_err-pass_table
returns-in_err-pass_table c =
    let from = c.new-reader.ensures.place ∙ ap (place 1) c.new.ensures in
    let passes = subst (λ (p : Place). PassesLines {X = Unit {0}} (table_lines c.args.first.now) (Err c.in_err-pass_table.field-0.0) p) from c.in_err-pass_table.ensures in
    let all = err_whether c.args.first.now c.args.bytes.now c.in_err-pass_table.field-0.0 c.requires passes in
    let p = err_from_is_err_and c.from_residual.result c.from_residual.ensures.1 in
    let answers = subst (λ r. AnswersWhether c.args.first.now c.args.bytes.now r) (sym (p.1 ∙ ap (λ fault. Err fault) p.2)) all in
    record { table = answers.table; accepted = answers.accepted; shape = answers.shape; misshaped = answers.misshaped }

pub returns : goal.returns
returns c =
    let from = c.new-reader.ensures.place ∙ ap (place 1) c.new.ensures in
    let passes = subst (λ (p : Place). PassesLines {X = Unit {0}} (table_lines c.args.first.now) (Ok tt) p) from c.in_ok-pass_table.ensures in
    let answers = ok_whether c.args.first.now c.args.bytes.now tt passes in
    record { table = answers.table; accepted = answers.accepted; shape = answers.shape; misshaped = answers.misshaped }
