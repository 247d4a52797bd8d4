use Rattle.std.proofs.Common.{sym, ap, ◌∙◌}
use Rattle.std.proofs.lemmas.Result.{err_from_is_err_and}
use Rattle.number_tables.specs.Leaving.{place_of}
use Rattle.number_tables.specs.Reading.{begins_with_end}
use Rattle.number_tables.proofs.Body.{fewer_left}
use Rattle.number_tables.proofs.PassingLines.{one_more_passed, line_passes_not, closing_passes}
use Rattle.number_tables.proofs.lines.pass_lines.Goals as goal

pub returns-in_err-line : goal.returns-in_err-line
returns-in_err-line c =
    let p = err_from_is_err_and c.from_residual.result c.from_residual.ensures.1 in
    let last = c.is_end_next.ensures ∙ ap begins_with_end (c.left.ensures ∙ ap (λ s. s.bytes.now) c.source.ensures) in
    rw (p.1, p.2) (line_passes_not (Unit {0}) (place_of c.args.r.now) (place_of c.lines.r) c.in_err-line.field-0.0 c.lines.invariant (sym last ∙ c.lines-test.true) (c.in_err-line.ensures.takes.reads tt))

pub lines-smaller : goal.lines-smaller
lines-smaller c = fewer_left (place_of c.lines.r) c.in_ok-line.field-0 (place_of c.line.new.r) (c.in_ok-line.ensures.takes.reads tt)

pub lines-preserved : goal.lines-preserved
lines-preserved c =
    one_more_passed (place_of c.args.r.now) (place_of c.lines.r) c.in_ok-line.field-0 (place_of c.line.new.r) c.lines.invariant (c.in_ok-line.ensures.takes.reads tt)

pub returns : goal.returns
returns c =
    let last = c.is_end_next.ensures ∙ ap begins_with_end (c.left.ensures ∙ ap (λ s. s.bytes.now) c.source.ensures) in
    closing_passes (place_of c.args.r.now) (place_of c.lines.r) (place_of c.closing.new.r) c.closing.result c.lines.invariant (sym last ∙ c.lines-test.false) (c.closing.ensures.takes.reads tt)
