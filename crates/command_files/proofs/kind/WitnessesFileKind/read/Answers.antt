use Rattle.std.proofs.Common.{Err, ap, inr, refl}
use Rattle.command_files.proofs.kind.WitnessesFileKind.read.Goals as goal

pub returns-in-Err-Rule-clause-reads : goal.returns-in-Err-Rule-clause-reads
returns-in-Err-Rule-clause-reads c = inr (c.in-Err-Rule.rule, c.in-Err-Rule.ensures.rule c.in-Err-Rule.rule (ap Err c.in-Err-Rule.field-0-is), refl)
