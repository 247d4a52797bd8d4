-- The file of a certificate.
use Rattle.std.specs.Prelude.{◌≡◌, ◌⊎◌, ℕ, List, codes, Result, Ok, Err}
use Rattle.te_model.specs.declared.certificate.Certificate.{Certificate}
use Rattle.te_model.specs.declared.certificate.RuleFault.{RuleFault}
use Rattle.te_model.specs.Text.{Spells}
use Rattle.te_model.specs.Faults.{IsShapeFault, IsRuleFault}
use Rattle.te_model.specs.FileLimit.{file_limit}
use Rattle.command_frame.specs.Reading.{Kind}
use Rattle.command_files.specs.Refusals.{shape_reason, rule_reason}

-- the bytes spell the certificate, or they leave the grammar at a line, or spell what breaks a rule
abbrev pub GivesCertificate : List ℕ → Result Certificate (List ℕ) → Type 0
GivesCertificate bytes (Ok certificate) = Spells bytes certificate
GivesCertificate bytes (Err words) =
    ((line : ℕ) × IsShapeFault bytes line × (words ≡ shape_reason line))
    ⊎ ((rule : RuleFault) × IsRuleFault bytes rule × (words ≡ rule_reason (codes "V") rule))

-- as many bytes at most as the format allows in which the file begins
abbrev pub certificates : Kind Certificate
certificates = record { limit = file_limit; gives = GivesCertificate }
