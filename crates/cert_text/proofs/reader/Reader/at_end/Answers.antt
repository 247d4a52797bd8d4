use Rattle.std.proofs.Common.{sym, ◌∙◌, arith}
use Rattle.std.proofs.lemmas.Grind.{common_steps}
use Rattle.cert_text.proofs.Digits.{nothing_left}
use Rattle.cert_text.proofs.reader.Reader.at_end.Goals as goal

pub returns-in-None-clause-takes : goal.returns-in-None-clause-takes
returns-in-None-clause-takes g c = record {
  told = c.peek.ensures.told;
  reads = λ t. rw (c.peek.ensures.same t) (nothing_left _ _ (sym c.in-None.is ∙ c.peek.ensures.byte t));
}

pub returns-in-Some-clause-takes : goal.returns-in-Some-clause-takes
returns-in-Some-clause-takes g c = grind (arith, common_steps)
