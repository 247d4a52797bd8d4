-- What reading a file answers.
use Rattle.std.specs.Prelude.{◌≡◌, ◌⊎◌, Result, Err}
use Rattle.cert_text.specs.declared.fault.CertFault.{CertFault}
use Rattle.cert_text.specs.declared.fault.CertFault.TheVariants as faults

-- the answer is the one that is due, or memory ran out
abbrev pub IsDueOrMemory : {X : Type 0} → Result X CertFault → Result X CertFault → Type 0
IsDueOrMemory result due = (result ≡ due) ⊎ (result ≡ Err faults.Memory)
