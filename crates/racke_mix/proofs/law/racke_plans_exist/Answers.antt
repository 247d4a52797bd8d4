use Rattle.racke_mix.proofs.Existence.{racke_plans_exist}
use Rattle.racke_mix.proofs.law.racke_plans_exist.Goals as goal

pub returns : goal.returns
returns c = racke_plans_exist
