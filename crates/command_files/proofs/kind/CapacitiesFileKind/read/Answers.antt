use Rattle.command_files.proofs.CapacityFiles.{network_given, reason_given}
use Rattle.command_files.proofs.kind.CapacitiesFileKind.read.Goals as goal

pub returns-in-Ok-priced-clause-reads : goal.returns-in-Ok-priced-clause-reads
returns-in-Ok-priced-clause-reads c =
    network_given c.args.self.now.certificate.now c.args.bytes.now c.in-Ok.network c.in-Ok-priced.network c.in-Ok.ensures.network c.in-Ok-priced.ensures.reads

pub returns-in-Err-priced-clause-reads : goal.returns-in-Err-priced-clause-reads
returns-in-Err-priced-clause-reads c =
    reason_given c.args.self.now.certificate.now c.args.bytes.now c.in-Ok.network c.in-Err-priced.reason c.in-Ok.ensures.network c.in-Err-priced.ensures.reads
