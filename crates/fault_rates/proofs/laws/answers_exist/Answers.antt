use Rattle.fault_rates.proofs.SomeAnswers.{answers_exist}
use Rattle.fault_rates.proofs.laws.answers_exist.Goals as goal

pub returns : goal.returns
returns c = answers_exist
