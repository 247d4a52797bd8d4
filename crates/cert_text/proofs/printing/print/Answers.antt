use Rattle.std.proofs.Common.{ℕ, List, ◌++◌, sym, ap, ◌∙◌}
use Rattle.cert_text.specs.Pieces.{certificate_text}
use Rattle.cert_text.proofs.Lines.{text_is}
use Rattle.cert_text.proofs.printing.print.Goals as goal

pub returns : goal.returns
returns c = record {
  spelling = c.in_ok-whole.ensures ∙ ap (λ (o : List ℕ). o ++ certificate_text c.args.cert.now) c.new-out.ensures.items ∙ sym (text_is c.args.cert.now);
}
