-- What the whole reader answers.
use Rattle.std.specs.Prelude.{◌≡◌, ℕ, Result, Ok, Err, Some, None}
use Rattle.te_model.specs.declared.certificate.Certificate.{Certificate}
use Rattle.te_model.specs.Validity.{first_rule}
use Rattle.cert_text.specs.declared.fault.CertFault.{CertFault}
use Rattle.cert_text.specs.declared.fault.CertFault.TheVariants as faults
use Rattle.cert_text.specs.Place.{Place}

-- the certificate that was read, or the line at which reading stopped
abbrev pub IsShaped : Result Certificate CertFault → Result (Certificate × Place) ℕ → Type 0
IsShaped (Ok c) read = (q : Place) × (read ≡ Ok (c, q))
IsShaped (Err faults.Memory) read = Unit {0}
IsShaped (Err (faults.Shape k)) read = read ≡ Err k
IsShaped (Err (faults.Rule f)) read = ⊥

-- the same, with the rules
abbrev pub IsAnswerOfReading : Result Certificate CertFault → Result (Certificate × Place) ℕ → Type 0
IsAnswerOfReading (Ok c) read = (q : Place) × (read ≡ Ok (c, q)) × (first_rule c ≡ None)
IsAnswerOfReading (Err faults.Memory) read = Unit {0}
IsAnswerOfReading (Err (faults.Shape k)) read = read ≡ Err k
IsAnswerOfReading (Err (faults.Rule f)) read = (c : Certificate) × (q : Place) × (read ≡ Ok (c, q)) × (first_rule c ≡ Some f)
