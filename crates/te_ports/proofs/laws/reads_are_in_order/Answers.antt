use Rattle.te_ports.proofs.Giving.{follow_once, follow_pieces, not_both, read_pieces, read_once_only}
use Rattle.te_ports.proofs.laws.reads_are_in_order.Goals as goal

pub returns-clause-pieces : goal.returns-clause-pieces
returns-clause-pieces c = λ p bytes is_read. read_pieces p bytes is_read

pub returns-clause-one : goal.returns-clause-one
returns-clause-one c = λ p a b first next. read_once_only p a b first next

pub returns-clause-front_pieces : goal.returns-clause-front_pieces
returns-clause-front_pieces c = λ p bytes given. follow_pieces p.name p.before p.now bytes given

pub returns-clause-one_front : goal.returns-clause-one_front
returns-clause-one_front c = λ p a b first next. follow_once p.name p.before p.now a b first next

pub returns-clause-not_both : goal.returns-clause-not_both
returns-clause-not_both c = λ p a b given is_read. not_both p a b given is_read
