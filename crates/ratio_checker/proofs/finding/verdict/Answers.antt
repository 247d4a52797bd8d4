use Rattle.ratio_checker.proofs.Verdicts.{yes_is_holds, yes_is_ratio, no_is_first}
use Rattle.ratio_checker.proofs.finding.verdict.Goals as goal

pub returns-clause-yes : goal.returns-clause-yes
returns-clause-yes c = yes_is_holds c.args.cert.now c.first_finding.result c.first_finding.ensures

pub returns-clause-ratio : goal.returns-clause-ratio
returns-clause-ratio c = yes_is_ratio c.args.cert.now c.first_finding.result c.requires c.first_finding.ensures

pub returns-clause-no : goal.returns-clause-no
returns-clause-no c = no_is_first c.args.cert.now c.first_finding.result c.first_finding.ensures
