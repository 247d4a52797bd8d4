use Rattle.std.proofs.Common.{◌+◌, ap, ◌∙◌, refl}
use Rattle.std.proofs.lemmas.Result.{err_from_is_err_and}
use Rattle.cert_text.specs.Place.{Place, place}
use Rattle.number_tables.specs.Leaving.{place_of, body_lines}
use Rattle.number_tables.specs.Table.{file_of}
use Rattle.number_tables.proofs.PassingLines.{first_stands, first_ends, behind_it}
use Rattle.number_tables.proofs.TakingNext.{stops_in_first, stops_behind_first, other_first, first_passed}
use Rattle.number_tables.proofs.lines.TableLines.new.Goals as goal

pub returns-in_err-word-clause-first : goal.returns-in_err-word-clause-first
returns-in_err-word-clause-first c =
    let p = err_from_is_err_and c.from_residual.result c.from_residual.ensures.1 in
    let at = c.new-reader.ensures.place ∙ ap (place 1) c.new.ensures in
    let e = c.in_err-word.field-0.0 in
    rw (p.1, p.2) (other_first (Unit {0}) c.args.first.now c.args.bytes.now (place_of c.new-reader.result) e at c.in_err-word.ensures.room (stops_in_first c.args.first.now (place_of c.new-reader.result) e (c.in_err-word.ensures.takes.reads tt)))

pub returns-in_err-end_line-clause-first : goal.returns-in_err-end_line-clause-first
returns-in_err-end_line-clause-first c =
    let p = err_from_is_err_and c.from_residual-in_err-end_line.result c.from_residual-in_err-end_line.ensures.1 in
    let at = c.new-reader.ensures.place ∙ ap (place 1) c.new.ensures in
    let e = c.in_err-end_line.field-0.0 in
    rw (p.1, p.2) (other_first (Unit {0}) c.args.first.now c.args.bytes.now (place_of c.new-reader.result) e at c.in_err-end_line.ensures.room (stops_behind_first c.args.first.now (place_of c.new-reader.result) (place_of c.word.new.self) e (c.in_ok-word.ensures.takes.reads tt) (c.in_err-end_line.ensures.takes.reads tt)))

pub returns-clause-first : goal.returns-clause-first
returns-clause-first c =
    let at = c.new-reader.ensures.place ∙ ap (place 1) c.new.ensures in
    first_passed c.args.first.now c.args.bytes.now (place_of c.new-reader.result) (place_of c.word.new.self) (place_of c.end_line.new.self) at (c.in_ok-word.ensures.takes.reads tt) (c.in_ok-end_line.ensures.takes.reads tt)

pub returns-in_err-word-clause-table : goal.returns-in_err-word-clause-table
returns-in_err-word-clause-table c = λ ls same.
    let from = ap (λ (p : Place). p.rest) (c.new-reader.ensures.place ∙ ap (place 1) c.new.ensures) in
    absurd (first_stands (Unit {0}) c.args.first.now (file_of (body_lines ls)) (place_of c.new-reader.result) c.in_err-word.field-0.0 (from ∙ same) c.in_err-word.ensures.room (c.in_err-word.ensures.takes.reads tt))

pub returns-in_err-end_line-clause-table : goal.returns-in_err-end_line-clause-table
returns-in_err-end_line-clause-table c = λ ls same.
    let from = ap (λ (p : Place). p.rest) (c.new-reader.ensures.place ∙ ap (place 1) c.new.ensures) in
    absurd (first_ends (Unit {0}) c.args.first.now (file_of (body_lines ls)) (place_of c.new-reader.result) (place_of c.word.new.self) c.in_err-end_line.field-0.0 (from ∙ same) c.in_err-end_line.ensures.room (c.in_ok-word.ensures.takes.reads tt) (c.in_err-end_line.ensures.takes.reads tt))

pub returns-clause-table : goal.returns-clause-table
returns-clause-table c = λ ls same.
    let at = c.new-reader.ensures.place ∙ ap (place 1) c.new.ensures in
    let from = ap (λ (p : Place). p.rest) at in
    let behind = behind_it c.args.first.now (file_of (body_lines ls)) (place_of c.new-reader.result) (place_of c.word.new.self) (place_of c.end_line.new.self) (from ∙ same) (c.in_ok-word.ensures.takes.reads tt) (c.in_ok-end_line.ensures.takes.reads tt) in
    (record { reader = c.end_line.new.self }, refl, behind.0, behind.1 ∙ ap (λ (p : Place). p.line + 1) at)
