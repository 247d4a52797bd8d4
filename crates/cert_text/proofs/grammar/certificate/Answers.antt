use Rattle.std.proofs.lemmas.Result.{err_from_is_err_and}
use Rattle.cert_text.specs.Reading.{narrow_number}
use Rattle.cert_text.proofs.Halves.{of_halves, with_blocks}
use Rattle.cert_text.proofs.Steps.{one_read, one_stopped, stays}
use Rattle.cert_text.proofs.grammar.certificate.Goals as goal

pub returns-in_err-head : goal.returns-in_err-head
returns-in_err-head g c =
    let p = err_from_is_err_and c.from_residual.result c.from_residual.ensures.1 in
    record {
      takes = rw (p.1, p.2) (of_halves narrow_number (one_stopped c.in_err-head.field-0.0 (with_blocks narrow_number) c.in_err-head.ensures.takes));
    }

pub returns-in_err-blocks : goal.returns-in_err-blocks
returns-in_err-blocks g c =
    let p = err_from_is_err_and c.from_residual-in_err-blocks.result c.from_residual-in_err-blocks.ensures.1 in
    record {
      takes = rw (p.1, p.2) (of_halves narrow_number (one_read (with_blocks narrow_number) c.in_ok-head.ensures.takes (one_stopped c.in_err-blocks.field-0.0 _ c.in_err-blocks.ensures.takes)));
    }

pub returns : goal.returns
returns g c = record {
  takes = of_halves narrow_number (one_read (with_blocks narrow_number) c.in_ok-head.ensures.takes (one_read _ c.in_ok-blocks.ensures.takes stays));
}
