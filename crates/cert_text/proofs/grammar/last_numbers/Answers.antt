use Rattle.cert_text.specs.LineEnds.{read_last_numbers}
use Rattle.cert_text.proofs.Steps.{all_appended, one_read}
use Rattle.cert_text.proofs.grammar.last_numbers.Goals as goal

pub returns-clause-takes : goal.returns-clause-takes
unfolding read_last_numbers
returns-clause-takes g c =
    one_read _ (all_appended c.in_ok-list.ensures.items c.in_ok-numbers.ensures.takes) (rw c.new.ensures at c.line_end_after.ensures.takes)
