use Rattle.te_command.proofs.SimulatedAlike.{simulated_alike, simulated_before}
use Rattle.te_command.proofs.laws.converted_files_are_simulated_alike.Goals as goal

pub returns : goal.returns
returns c = λ content file made plan are status text. (
  simulated_alike content file made plan are.text text status are.told_as are.converted,
  simulated_before content file made plan are.text text status are.told_as are.converted,
)
