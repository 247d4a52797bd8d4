-- What `convert` answers of a certificate: the file of the same certificate in the second format.
use Rattle.std.specs.Prelude.{◌≡◌, ◌≤◌, ℕ, List, length, Some}
use Rattle.te_model.specs.declared.certificate.Certificate.{Certificate}
use Rattle.te_model.specs.declared.limits.TheConstants.{FORMAT_2}
use Rattle.te_model.specs.Text.{Spells, text as text_of}
use Rattle.te_model.specs.Upgrade.{upgraded_certificate}
use Rattle.command_frame.specs.Files.{told_files}
use Rattle.command_frame.specs.Reading.{Answers, Reading, answers, reads, Means}
use Rattle.command_frame.specs.Table.{Entry}
use Rattle.command_files.specs.CertificateFile.{certificates}

-- nothing is said of the inequalities
abbrev pub conversion_of : Certificate → Answers
conversion_of certificate = record {
  status = λ status. status ≡ 0;
  text = λ status file. (status ≡ 0) × (file ≡ text_of (upgraded_certificate certificate));
  proves = λ file. Spells file (upgraded_certificate certificate);
}

-- the certificate is read
abbrev pub conversion_reading : List ℕ → Reading
conversion_reading certificate = reads Certificate certificates certificate (λ spelled. answers (conversion_of spelled))

-- a file that `convert` has made: it is not too long, spells a certificate of the second format, and under any name is converted to
-- the same bytes
pub record IsConverted (bytes : List ℕ) : Type 0 where
  pub fits : length bytes ≤ certificates.limit bytes
  pub certificate : Certificate
  pub spelled : Spells bytes certificate
  pub format : certificate.head.format ≡ FORMAT_2.format
  pub answer : (file : List ℕ) → Means (conversion_reading file) (told_files (λ name. Some bytes)) 0 bytes

-- `convert CERT` writes a file of the second format, and no other text
abbrev pub convert_entry : List ℕ → Entry
convert_entry certificate = record {
  reading = conversion_reading certificate;
  may_answer = λ status text. (status ≡ 0) × IsConverted text;
  has_one_text = Unit {0};
  in_range = Unit {0};
}
