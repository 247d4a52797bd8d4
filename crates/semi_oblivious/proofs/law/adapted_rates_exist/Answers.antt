use Rattle.semi_oblivious.proofs.AdaptedRoutings.{adapted_rates_exist}
use Rattle.semi_oblivious.proofs.law.adapted_rates_exist.Goals as goal

pub returns : goal.returns
returns c = adapted_rates_exist
