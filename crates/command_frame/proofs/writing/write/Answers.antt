use Rattle.command_frame.proofs.Delivering.{delivers_whole, delivers_part}
use Rattle.command_frame.proofs.writing.write.Goals as goal

pub returns-in-Ok : goal.returns-in-Ok
returns-in-Ok g c = delivers_whole _ _ _ _ _ c.requires c.in-Ok.ensures.all c.in-Ok.ensures.steady c.in-Ok.ensures.later

pub returns-in-Err : goal.returns-in-Err
returns-in-Err g c =
    delivers_part _ _ _ _ c.requires c.in-Err.ensures.part c.in-Err.ensures.failed c.in-Err.ensures.later c.say.ensures.said c.say.ensures.later
