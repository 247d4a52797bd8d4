-- Each clause follows from what is read of the bytes.
use Rattle.std.specs.declared.alloc.Global.{Global}
use Rattle.std.proofs.Common.{sym, ap, subst, ◌∙◌, Ok, Err}
use Rattle.std.proofs.lemmas.Result.{err_from_is_err_and}
use Rattle.cert_text.specs.Place.{Place, place}
use Rattle.number_tables.specs.Leaving.{ReadsLines}
use Rattle.number_tables.specs.Table.{table_lines}
use Rattle.number_tables.proofs.Whole.{AnswersTable, ok_answers, err_answers}
use Rattle.number_tables.proofs.reader.table.Goals as goal

pub returns-in_err-whole : goal.returns-in_err-whole
returns-in_err-whole c =
    let from = c.new-reader.ensures.place ∙ ap (place 1) c.new.ensures in
    let reads = subst (λ (p : Place). ReadsLines {A = Global} (table_lines c.args.first.now) (Err c.in_err-whole.field-0.0) p) from c.in_err-whole.ensures in
    let all = err_answers Global c.args.first.now c.args.bytes.now c.in_err-whole.field-0.0 c.requires reads in
    let p = err_from_is_err_and c.from_residual.result c.from_residual.ensures.1 in
    let answers = subst (λ r. AnswersTable {A = Global} c.args.first.now c.args.bytes.now r) (sym (p.1 ∙ ap (λ fault. Err fault) p.2)) all in
    record { lines = answers.lines; accepted = answers.accepted; shape = answers.shape; misshaped = answers.misshaped }

pub returns : goal.returns
returns c =
    let from = c.new-reader.ensures.place ∙ ap (place 1) c.new.ensures in
    let reads = subst (λ (p : Place). ReadsLines {A = Global} (table_lines c.args.first.now) (Ok c.in_ok-whole.field-0) p) from c.in_ok-whole.ensures in
    let all = ok_answers Global c.args.first.now c.args.bytes.now c.in_ok-whole.field-0 c.requires reads in
    record { lines = all.lines; accepted = all.accepted; shape = all.shape; misshaped = all.misshaped }
