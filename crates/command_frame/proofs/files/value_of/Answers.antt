use Rattle.command_frame.proofs.Following.{refused_bytes}
use Rattle.command_frame.proofs.files.value_of.Goals as goal

pub returns-in-Err-Refused-clause-reads : goal.returns-in-Err-Refused-clause-reads
returns-in-Err-Refused-clause-reads g c =
    refused_bytes g.K.Refusal.Display.output (g.K.FileKind.kind c.args.kind.now) c.args.file.now c.args.bytes.now c.in-Err-Refused.refusal c.refuse.result
    (rw c.in-Err-Refused.field-0-is at c.in-Err-Refused.ensures.reads) c.refuse.ensures
