-- What `hose` answers of a certificate and a hose: the file of a hose certificate.
use Rattle.std.specs.Prelude.{◌≡◌, ◌<◌, ℕ, List, length}
use Rattle.te_model.specs.declared.certificate.Certificate.{Certificate}
use Rattle.te_model.specs.declared.certificate.Head.{Head}
use Rattle.hose_bound.specs.declared.hose.Hose.{Hose}
use Rattle.hose_bound.specs.declared.hose.HoseCert.{HoseCert}
use Rattle.hose_bound.specs.declared.verdict.HoseVerdict.TheVariants.{Yes}
use Rattle.hose_bound.specs.Answers.{IsHoseText, verdict_line}
use Rattle.hose_bound.specs.Files.{hose_cert_text}
use Rattle.command_frame.specs.Reading.{Answers, Reading, answers, reads}
use Rattle.command_frame.specs.Table.{Entry}
use Rattle.command_files.specs.CertificateFile.{certificates}
use Rattle.command_files.specs.HoseFile.{bounds_files}

-- the text is that of a hose certificate that may be made, by whose bound the routing is bounded
abbrev pub bounding_of : Head → Hose → Answers
bounding_of head hose = record {
  status = λ status. status ≡ 0;
  text = λ status text. (status ≡ 0) × IsHoseText head.network head.routes hose text;
  proves = IsHoseText head.network head.routes hose;
}

-- the hose of a head is read
abbrev pub bounds_reading : List ℕ → Head → Reading
bounds_reading bounds head = reads Hose (bounds_files head.network) bounds (λ hose. answers (bounding_of head hose))

-- the text of some hose certificate
pub record IsTextOfCert (text : List ℕ) : Type 0 where
  pub cert : HoseCert
  pub text_is : text ≡ hose_cert_text cert
  pub short : length text < 2200000

-- `hose CERT BOUNDS` writes a hose certificate
abbrev pub bound_hose_entry : List ℕ → List ℕ → Entry
bound_hose_entry certificate bounds = record {
  reading = reads Certificate certificates certificate (λ spelled. bounds_reading bounds spelled.head);
  may_answer = λ status text. (status ≡ 0) × IsTextOfCert text;
  has_one_text = ⊥;
  in_range = Unit {0};
}

-- the line of the yes to the hose certificate whose file these bytes are
pub record SaysYesToHose (bytes line : List ℕ) : Type 0 where
  pub cert : HoseCert
  pub file : bytes ≡ hose_cert_text cert
  pub line_is : line ≡ verdict_line cert.bound Yes
