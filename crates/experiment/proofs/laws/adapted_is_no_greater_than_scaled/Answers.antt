use Rattle.experiment.proofs.Adapted.{adapted_is_no_greater_than_scaled}
use Rattle.experiment.proofs.laws.adapted_is_no_greater_than_scaled.Goals as goal

pub returns : goal.returns
returns c = adapted_is_no_greater_than_scaled
