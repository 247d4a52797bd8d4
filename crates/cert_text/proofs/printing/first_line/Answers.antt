use Rattle.cert_text.proofs.printing.first_line.Goals as goal

pub returns : goal.returns
returns c = rw c.from.ensures at c.counted.ensures
