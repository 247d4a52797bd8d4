-- Laws of tightened certificates, as statements.
use Rattle.std.specs.Prelude.{◌≤◌}
use Rattle.te_model.specs.declared.certificate.Certificate.{Certificate}
use Rattle.te_model.specs.Inequalities.{Holds}
use Rattle.te_model.specs.Validity.{IsValid}
use Rattle.te_model.specs.Feasible.{AreFeasible}
use Rattle.ratio_tightening.specs.Tightened.{IsTightened, IsTighter}

-- A valid certificate has a tightened one.
abbrev pub TightenedCertificatesExist : Type 0
TightenedCertificatesExist = (c : Certificate) → IsValid c → (new : Certificate) × IsTightened c new

-- Each of them is tighter.
abbrev pub TightenedIsTighter : Type 0
TightenedIsTighter = (c new : Certificate) → IsValid c → AreFeasible c → IsTightened c new → IsTighter c new

-- Where the inequalities of the certificate hold the ratio is no greater than its own.
abbrev pub TightenedLowersRatio : Type 0
TightenedLowersRatio = (c new : Certificate) → IsValid c → Holds c → IsTightened c new → new.head.ratio ≤ c.head.ratio
