-- What the first failure of a certificate is called.
use Rattle.std.specs.Prelude.{Option, Some, None}
use Rattle.te_model.specs.Inequalities.{LinkFailure}
use Rattle.ratio_checker.specs.declared.finding.Finding.{Finding}
use Rattle.ratio_checker.specs.declared.finding.Finding.TheVariants.{Yes, No}

abbrev pub finding_of : Option LinkFailure → Finding
finding_of None = Yes
finding_of (Some f) = No f.link f.rule f.place
