use Rattle.te_command.proofs.Table.{table_is_sound}
use Rattle.te_command.proofs.laws.told_files_mean_one_answer.Goals as goal

pub told_files_mean_one_answer-requires : goal.told_files_mean_one_answer-requires
told_files_mean_one_answer-requires c = table_is_sound

pub returns-clause-some : goal.returns-clause-some
returns-clause-some c = c.told_files_mean_one_answer.ensures.some

pub returns-clause-some_text : goal.returns-clause-some_text
returns-clause-some_text c = c.told_files_mean_one_answer.ensures.some_text

pub returns-clause-status : goal.returns-clause-status
returns-clause-status c = c.told_files_mean_one_answer.ensures.status

pub returns-clause-one : goal.returns-clause-one
returns-clause-one c = c.told_files_mean_one_answer.ensures.one

pub returns-clause-one_text : goal.returns-clause-one_text
returns-clause-one_text c = c.told_files_mean_one_answer.ensures.one_text
