use Rattle.cert_text.specs.Grammar.{read_listing}
use Rattle.cert_text.specs.LineEnds.{read_last_numbers, read_line_end_after}
use Rattle.cert_text.proofs.Steps.{one_passed}
use Rattle.cert_text.proofs.grammar.listing.Goals as goal

pub returns-clause-takes : goal.returns-clause-takes
unfolding read_listing read_last_numbers read_line_end_after
returns-clause-takes g c = one_passed c.in_ok-word.ensures.takes c.last_numbers.ensures.takes
