use Rattle.std.proofs.Common.{sym, ap, ◌∙◌, refl}
use Rattle.std.proofs.lemmas.Result.{err_from_is_err_and}
use Rattle.number_tables.specs.Leaving.{place_of}
use Rattle.number_tables.specs.Reading.{begins_with_end}
use Rattle.number_tables.proofs.PassingLines.{no_line_left, next_is_first, no_next_fault}
use Rattle.number_tables.proofs.TakingNext.{end_is_next, line_is_next, none_is_next}
use Rattle.number_tables.proofs.lines.TableLines.next_line.Goals as goal

pub returns-then-is_end_next-clause-next : goal.returns-then-is_end_next-clause-next
returns-then-is_end_next-clause-next c =
    let last = c.is_end_next.ensures ∙ ap begins_with_end (c.left.ensures ∙ ap (λ s. s.bytes.now) c.source.ensures) in
    (end_is_next c.args.self.now.reader.source.bytes.now (sym last ∙ c.if-is_end_next.true), refl)

pub returns-in_err-line-clause-next : goal.returns-in_err-line-clause-next
returns-in_err-line-clause-next c =
    let p = err_from_is_err_and c.from_residual.result c.from_residual.ensures.1 in
    let last = c.is_end_next.ensures ∙ ap begins_with_end (c.left.ensures ∙ ap (λ s. s.bytes.now) c.source.ensures) in
    rw (p.1, p.2) (none_is_next c.args.self.now (record { reader = c.line.new.r }) c.in_err-line.field-0.0 (sym last ∙ c.if-is_end_next.false) (c.in_err-line.ensures.takes.reads tt))

pub returns-clause-next : goal.returns-clause-next
returns-clause-next c = line_is_next c.args.self.now (record { reader = c.line.new.r }) c.in_ok-line.field-0 (c.in_ok-line.ensures.takes.reads tt)

pub returns-then-is_end_next-clause-table : goal.returns-then-is_end_next-clause-table
returns-then-is_end_next-clause-table c = λ ls al same.
    let last = c.is_end_next.ensures ∙ ap begins_with_end (c.left.ensures ∙ ap (λ s. s.bytes.now) c.source.ensures) in
    (no_line_left ls c.args.self.now.reader.source.bytes.now al same (sym last ∙ c.if-is_end_next.true), refl)

pub returns-in_err-line-clause-table : goal.returns-in_err-line-clause-table
returns-in_err-line-clause-table c = λ ls al same.
    let p = err_from_is_err_and c.from_residual.result c.from_residual.ensures.1 in
    let last = c.is_end_next.ensures ∙ ap begins_with_end (c.left.ensures ∙ ap (λ s. s.bytes.now) c.source.ensures) in
    rw (p.1, p.2) (no_next_fault ls (place_of c.args.self.now.reader) c.in_err-line.field-0.0 al same (sym last ∙ c.if-is_end_next.false) (c.in_err-line.ensures.takes.reads tt))

pub returns-clause-table : goal.returns-clause-table
returns-clause-table c = λ ls al same.
    let last = c.is_end_next.ensures ∙ ap begins_with_end (c.left.ensures ∙ ap (λ s. s.bytes.now) c.source.ensures) in
    next_is_first ls (place_of c.args.self.now.reader) c.in_ok-line.field-0 (place_of c.line.new.r) al same (sym last ∙ c.if-is_end_next.false) (c.in_ok-line.ensures.takes.reads tt)
