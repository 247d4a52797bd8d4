use Rattle.std.proofs.Common.{sym, ap, ◌∙◌}
use Rattle.cert_text.specs.Place.{place}
use Rattle.cert_text.specs.Reading.{narrow_number}
use Rattle.cert_text.specs.Grammar.{read_certificate}
use Rattle.cert_text.proofs.reading.shape.Goals as goal

pub returns-in-Err-Shape : goal.returns-in-Err-Shape
returns-in-Err-Shape c =
    let stopped = rw c.in-Err-Shape.field-0-is at (c.in-Err-Shape.ensures.takes.reads tt) in
    record { exact = ap (read_certificate narrow_number) (sym (c.new-reader.ensures.place ∙ ap (place 1) c.new.ensures)) ∙ stopped }
