use Rattle.experiment.proofs.Predictions.{predictions_change_no_oblivious}
use Rattle.experiment.proofs.laws.predictions_change_no_oblivious.Goals as goal

pub returns : goal.returns
returns c = predictions_change_no_oblivious
