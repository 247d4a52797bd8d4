use Rattle.std.proofs.Common.{rules}
use Rattle.command_files.proofs.kind.FailureFilesFileKind.read.Goals as goal

pub returns-in-Ok-clause-reads : goal.returns-in-Ok-clause-reads
returns-in-Ok-clause-reads c = search rules
