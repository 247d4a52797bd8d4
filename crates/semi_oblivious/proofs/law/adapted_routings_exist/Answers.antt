use Rattle.semi_oblivious.proofs.AdaptedRoutings.{adapted_routings_exist}
use Rattle.semi_oblivious.proofs.law.adapted_routings_exist.Goals as goal

pub returns : goal.returns
returns c = adapted_routings_exist
