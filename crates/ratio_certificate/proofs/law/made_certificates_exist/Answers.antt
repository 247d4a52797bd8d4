use Rattle.ratio_certificate.proofs.OffersOfAll.{made_certificates_exist}
use Rattle.ratio_certificate.proofs.law.made_certificates_exist.Goals as goal

pub returns : goal.returns
returns c = made_certificates_exist
