use Rattle.std.proofs.Common.{refl}
use Rattle.certificate_commands.proofs.tighten.tightened_file.Goals as goal

pub returns : goal.returns
returns c = (refl, (c.in_ok-tighter.tighter, c.in_ok-tighter.ensures.tightened, c.in_ok-file.ensures.spelling))
