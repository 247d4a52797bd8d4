use Rattle.certificate_commands.proofs.Repricing.{yes_alone, yes_of_topology}
use Rattle.te_command.proofs.laws.repriced_files_are_answered_yes.Goals as goal

pub returns-clause-alone : goal.returns-clause-alone
returns-clause-alone c = yes_alone

pub returns-clause-of_topology : goal.returns-clause-of_topology
returns-clause-of_topology c = yes_of_topology
