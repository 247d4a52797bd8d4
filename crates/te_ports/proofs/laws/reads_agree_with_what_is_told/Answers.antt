use Rattle.te_ports.proofs.Giving.{read_is, past_is, past_allowed}
use Rattle.te_ports.proofs.laws.reads_agree_with_what_is_told.Goals as goal

pub returns-clause-whole : goal.returns-clause-whole
returns-clause-whole c = λ content p adds told at bytes is_read. read_is content p told bytes at adds is_read

pub returns-clause-longer : goal.returns-clause-longer
returns-clause-longer c = λ content p adds told at limit past. past_is content p told limit at adds past

pub returns-clause-longer_than_allowed : goal.returns-clause-longer_than_allowed
returns-clause-longer_than_allowed c = λ content p adds told at allowed limit past. past_allowed content p told allowed limit at adds past
