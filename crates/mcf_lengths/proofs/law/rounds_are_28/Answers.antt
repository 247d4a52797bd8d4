use Rattle.std.proofs.Common.{refl}
use Rattle.mcf_lengths.proofs.law.rounds_are_28.Goals as goal

pub returns : goal.returns
returns c = refl
