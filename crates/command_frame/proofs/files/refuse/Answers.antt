use Rattle.command_frame.proofs.Following.{refusal_shown, memory_shown}
use Rattle.command_frame.proofs.files.refuse.Goals as goal

pub returns-in-Ok : goal.returns-in-Ok
returns-in-Ok g c = refusal_shown _ c.args.file.now c.in-Ok.line c.in-Ok.ensures.ok

pub returns-in-Err : goal.returns-in-Err
returns-in-Err g c = memory_shown _ c.args.file.now
