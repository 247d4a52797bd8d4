use Rattle.racke_mix.proofs.MixesExist.{mixes_exist}
use Rattle.racke_mix.proofs.law.mixes_exist.Goals as goal

pub returns : goal.returns
returns c = mixes_exist
