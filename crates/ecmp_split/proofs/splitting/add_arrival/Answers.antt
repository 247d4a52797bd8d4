use Rattle.std.proofs.Common.{refl}
use Rattle.ecmp_split.proofs.splitting.add_arrival.Goals as goal

pub returns : goal.returns
returns c = refl
