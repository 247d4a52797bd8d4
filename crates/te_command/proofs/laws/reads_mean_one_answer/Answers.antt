use Rattle.te_command.proofs.Table.{table_is_sound}
use Rattle.te_command.proofs.laws.reads_mean_one_answer.Goals as goal

pub reads_mean_one_answer-requires : goal.reads_mean_one_answer-requires
reads_mean_one_answer-requires c = table_is_sound

pub returns-clause-after_others : goal.returns-clause-after_others
returns-clause-after_others c = c.reads_mean_one_answer.ensures.after_others

pub returns-clause-one : goal.returns-clause-one
returns-clause-one c = c.reads_mean_one_answer.ensures.one

pub returns-clause-one_text : goal.returns-clause-one_text
returns-clause-one_text c = c.reads_mean_one_answer.ensures.one_text
