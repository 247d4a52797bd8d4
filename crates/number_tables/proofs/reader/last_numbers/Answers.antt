use Rattle.std.proofs.Common.{ap, ◌∙◌}
use Rattle.std.proofs.lemmas.Result.{err_from_is_err_and}
use Rattle.cert_text.specs.LineEnds.{read_line_end_after}
use Rattle.cert_text.proofs.Steps.{one_fronted, one_passed, one_stopped, stays}
use Rattle.number_tables.specs.Reading.{spaces_in_line}
use Rattle.number_tables.proofs.Steps.{as_many}
use Rattle.number_tables.proofs.reader.last_numbers.Goals as goal

pub returns-in_err-end_line : goal.returns-in_err-end_line
unfolding read_line_end_after
returns-in_err-end_line c =
    let p = err_from_is_err_and c.from_residual-in_err-end_line.result c.from_residual-in_err-end_line.ensures.1 in
    let count = c.spaces_before_line_end-count.ensures ∙ ap spaces_in_line (c.left.ensures ∙ ap (λ s. s.bytes.now) c.source.ensures) in
    record {
      takes = rw (p.1, p.2) (as_many c.args.list.items c.spaces_before_line_end-count.result count (one_fronted c.args.list.items c.in_ok-numbers.ensures.takes (one_stopped c.in_err-end_line.field-0.0 _ c.in_err-end_line.ensures.takes)));
    }

pub returns : goal.returns
unfolding read_line_end_after
returns c =
    let count = c.spaces_before_line_end-count.ensures ∙ ap spaces_in_line (c.left.ensures ∙ ap (λ s. s.bytes.now) c.source.ensures) in
    record {
      takes = rw c.new.ensures (as_many c.args.list.items c.spaces_before_line_end-count.result count (one_fronted c.args.list.items c.in_ok-numbers.ensures.takes (one_passed c.in_ok-end_line.ensures.takes stays)));
    }
