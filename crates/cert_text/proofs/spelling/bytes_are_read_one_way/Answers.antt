use Rattle.cert_text.proofs.Laws.{some_reading, one_spelling, one_fault, one_rule_fault, spelled_or_ruled}
use Rattle.cert_text.proofs.spelling.bytes_are_read_one_way.Goals as goal

pub returns-clause-some : goal.returns-clause-some
returns-clause-some c = λ bytes. some_reading bytes

pub returns-clause-one_certificate : goal.returns-clause-one_certificate
returns-clause-one_certificate c = λ bytes a b s t. one_spelling bytes a b s t

pub returns-clause-one_line : goal.returns-clause-one_line
returns-clause-one_line c = λ bytes j k f g. one_fault bytes j k f g

pub returns-clause-one_rule : goal.returns-clause-one_rule
returns-clause-one_rule c = λ bytes f g p q. one_rule_fault bytes f g p q

pub returns-clause-spelled_or_misshaped : goal.returns-clause-spelled_or_misshaped
returns-clause-spelled_or_misshaped c = λ bytes a k s fault. fault.no_file a s.0.0 s.1

pub returns-clause-spelled_or_ruled : goal.returns-clause-spelled_or_ruled
returns-clause-spelled_or_ruled c = λ bytes a f s p. spelled_or_ruled bytes a f s p

pub returns-clause-misshaped_or_ruled : goal.returns-clause-misshaped_or_ruled
returns-clause-misshaped_or_ruled c = λ bytes k f fault p. fault.no_file p.spelled p.shaped p.file
