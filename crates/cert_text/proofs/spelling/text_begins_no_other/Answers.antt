use Rattle.cert_text.proofs.Shaped.{shaped_fits}
use Rattle.cert_text.proofs.Laws.{one_text}
use Rattle.cert_text.proofs.spelling.text_begins_no_other.Goals as goal

pub returns-clause-shaped : goal.returns-clause-shaped
returns-clause-shaped c = λ a b r sa sb longer. one_text a b r (shaped_fits a sa) (shaped_fits b sb) longer

pub returns-clause-valid : goal.returns-clause-valid
returns-clause-valid c = λ a b r va vb longer. one_text a b r (shaped_fits a va.0) (shaped_fits b vb.0) longer
