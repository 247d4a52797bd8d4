use Rattle.std.specs.declared.alloc.Global.{Global}
use Rattle.std.proofs.Common.{sym, ap, ◌∙◌}
use Rattle.std.proofs.lemmas.Result.{err_from_is_err_and}
use Rattle.number_tables.specs.Leaving.{place_of}
use Rattle.number_tables.specs.Reading.{begins_with_end}
use Rattle.number_tables.proofs.Body.{one_more_line, fewer_left, line_stops, end_stops, ends_well}
use Rattle.number_tables.proofs.reader.lines.Goals as goal

pub returns-in_err-next : goal.returns-in_err-next
returns-in_err-next c =
    let p = err_from_is_err_and c.from_residual.result c.from_residual.ensures.1 in
    let last = c.is_end_next.ensures ∙ ap begins_with_end (c.left.ensures ∙ ap (λ s. s.bytes.now) c.source.ensures) in
    rw (p.1, p.2) (line_stops Global (place_of c.args.r.now) (place_of c.loop-alloc.r) c.loop-alloc.lines.items c.in_err-next.field-0.0 c.loop-alloc.invariant (sym last ∙ c.loop-alloc-test.true) (c.in_err-next.ensures.takes.reads tt))

pub loop-alloc-smaller : goal.loop-alloc-smaller
loop-alloc-smaller c = fewer_left (place_of c.loop-alloc.r) c.in_ok-next.next (place_of c.line.new.r) (c.in_ok-next.ensures.takes.reads tt)

pub loop-alloc-preserved : goal.loop-alloc-preserved
loop-alloc-preserved c =
    rw c.in_ok-push.ensures.items (one_more_line (place_of c.args.r.now) (place_of c.loop-alloc.r) c.loop-alloc.lines.items c.in_ok-next.next (place_of c.line.new.r) c.loop-alloc.invariant (c.in_ok-next.ensures.takes.reads tt))

pub returns-in_err-closing : goal.returns-in_err-closing
returns-in_err-closing c =
    let p = err_from_is_err_and c.from_residual-in_err-closing.result c.from_residual-in_err-closing.ensures.1 in
    let last = c.is_end_next.ensures ∙ ap begins_with_end (c.left.ensures ∙ ap (λ s. s.bytes.now) c.source.ensures) in
    rw (p.1, p.2) (end_stops Global (place_of c.args.r.now) (place_of c.loop-alloc.r) c.loop-alloc.lines.items c.in_err-closing.field-0.0 c.loop-alloc.invariant (sym last ∙ c.loop-alloc-test.false) (c.in_err-closing.ensures.takes.reads tt))

pub returns : goal.returns
returns c =
    let last = c.is_end_next.ensures ∙ ap begins_with_end (c.left.ensures ∙ ap (λ s. s.bytes.now) c.source.ensures) in
    ends_well (place_of c.args.r.now) (place_of c.loop-alloc.r) (place_of c.closing.new.r) c.loop-alloc.lines.items c.loop-alloc.invariant (sym last ∙ c.loop-alloc-test.false) (c.in_ok-closing.ensures.takes.reads tt)
