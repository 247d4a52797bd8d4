use Rattle.ratio_certificate.proofs.RoundLaws.{raised_more}
use Rattle.ratio_certificate.proofs.raising.raise_weight.Goals as goal

pub returns-clause-more : goal.returns-clause-more
returns-clause-more c = raised_more c.args.least c.args.capacity c.args.weight c.requires.capacity.0 c.requires.least
