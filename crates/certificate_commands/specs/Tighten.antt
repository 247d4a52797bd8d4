-- What `tighten` answers of a certificate: the file of a certificate of the same routing with a lower ratio.
use Rattle.std.specs.Prelude.{◌≡◌, ◌⊎◌, ℕ, List, None}
use Rattle.te_model.specs.declared.certificate.Certificate.{Certificate}
use Rattle.te_model.specs.Text.{Spells, text as text_of}
use Rattle.te_model.specs.Feasible.{first_infeasibility}
use Rattle.ratio_tightening.specs.Tightened.{IsTightened, IsTighter}
use Rattle.command_frame.specs.Reading.{Answers, answers, reads}
use Rattle.command_frame.specs.Table.{Entry}
use Rattle.certificate_commands.specs.Bounds.{SaysInfeasible}
use Rattle.command_files.specs.CertificateFile.{certificates}
use Rattle.command_files.specs.Check.{IsAnsweredYes, IsProof}

-- the file of a tightened certificate
abbrev pub IsTightenedFile : Certificate → ℕ → List ℕ → Type 0
IsTightenedFile certificate status text =
    (status ≡ 0) × ((new : Certificate) × IsTightened certificate new × (text ≡ text_of new))

-- I1 to I3 hold of every link, and this is the file of a tightened certificate; or the line of the first that fails
abbrev pub IsTightening : Certificate → ℕ → List ℕ → Type 0
IsTightening certificate status text =
    ((first_infeasibility certificate ≡ None) × IsTightenedFile certificate status text)
    ⊎ ((status ≡ 1) × SaysInfeasible certificate text)

-- The file is that of a tightened certificate: with the same head but for the ratio, which it proves, and which is no greater than the
-- greatest need of the given blocks.
pub record IsTightenedProof (certificate : Certificate) (file : List ℕ) : Type 0 where
  pub new : Certificate
  pub spelled : Spells file new
  pub tightened : IsTightened certificate new
  pub tighter : IsTighter certificate new
  pub proof : IsProof new

abbrev pub tightening_of : Certificate → Answers
tightening_of certificate = record {
  status = λ status. (text : List ℕ) × IsTightening certificate status text;
  text = IsTightening certificate;
  proves = IsTightenedProof certificate;
}

-- `tighten CERT` writes a file to which `check` says yes, or says no
abbrev pub tighten_entry : List ℕ → Entry
tighten_entry certificate = record {
  reading = reads Certificate certificates certificate (λ spelled. answers (tightening_of spelled));
  may_answer = λ status text. ((status ≡ 0) × IsAnsweredYes text) ⊎ (status ≡ 1);
  has_one_text = ⊥;
  in_range = Unit {0};
}
