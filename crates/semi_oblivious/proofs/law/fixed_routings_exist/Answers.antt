use Rattle.semi_oblivious.proofs.AdaptedRoutings.{fixed_routings_exist}
use Rattle.semi_oblivious.proofs.law.fixed_routings_exist.Goals as goal

pub returns : goal.returns
returns c = fixed_routings_exist
