use Rattle.std.proofs.Common.{arith}
use Rattle.std.proofs.lemmas.Grind.{common_steps}
use Rattle.cert_text.proofs.reader.Reader.byte.Goals as goal

pub returns-in_default-clause-fewer : goal.returns-in_default-clause-fewer
returns-in_default-clause-fewer g c = tt

pub returns-in_default-clause-room : goal.returns-in_default-clause-room
returns-in_default-clause-room g c = rw c.fault.ensures (λ e. cc)

pub returns-in_default-clause-takes : goal.returns-in_default-clause-takes
returns-in_default-clause-takes g c = grind (arith, common_steps)
