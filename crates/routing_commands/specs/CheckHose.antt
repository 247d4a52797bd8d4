-- What `check-hose` answers of a certificate and a hose certificate.
use Rattle.std.specs.Prelude.{◌≤◌, ℕ, List}
use Rattle.te_model.specs.declared.certificate.Certificate.{Certificate}
use Rattle.te_model.specs.declared.certificate.Head.{Head}
use Rattle.hose_bound.specs.declared.hose.HoseCert.{HoseCert}
use Rattle.hose_bound.specs.Answers.{IsBoundedBy, IsHoseVerdict}
use Rattle.command_frame.specs.Reading.{Answers, Reading, answers, reads}
use Rattle.command_frame.specs.Table.{Entry}
use Rattle.command_files.specs.CertificateFile.{certificates}
use Rattle.command_files.specs.HoseFile.{hose_files}

-- a yes proves that no matrix within the hose uses a link above the bound
abbrev pub hose_verdict_on : Head → HoseCert → Answers
hose_verdict_on head cert = record {
  status = λ status. (text : List ℕ) × IsHoseVerdict head cert status text;
  text = IsHoseVerdict head cert;
  proves = λ text. IsBoundedBy head.network head.routes cert;
}

-- the hose certificate of a head is read
abbrev pub hose_cert_reading : List ℕ → Head → Reading
hose_cert_reading file head = reads HoseCert (hose_files head.network) file (λ cert. answers (hose_verdict_on head cert))

-- `check-hose CERT HOSE` says yes or no of the hose certificate, in one text
abbrev pub check_hose_entry : List ℕ → List ℕ → Entry
check_hose_entry certificate file = record {
  reading = reads Certificate certificates certificate (λ spelled. hose_cert_reading file spelled.head);
  may_answer = λ status text. status ≤ 1;
  has_one_text = Unit {0};
  in_range = Unit {0};
}
