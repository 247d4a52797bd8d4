-- What `bounds` answers of a certificate: the needs of its links, where the first three inequalities hold.
use Rattle.std.specs.Prelude.{◌≡◌, ◌⊎◌, ℕ, List, Some, None}
use Rattle.te_model.specs.declared.certificate.Certificate.{Certificate}
use Rattle.te_model.specs.Feasible.{AreFeasible, first_infeasibility}
use Rattle.te_model.specs.Inequalities.{LinkFailure}
use Rattle.te_model.specs.Validity.{IsValid}
use Rattle.link_bounds.specs.Proved.{ProvesNeeds}
use Rattle.link_bounds.specs.Table.{bounds_text}
use Rattle.command_frame.specs.Reading.{Answers, answers, reads}
use Rattle.command_frame.specs.Table.{Entry}
use Rattle.command_files.specs.CertificateFile.{certificates}
use Rattle.command_files.specs.Check.{no_line}

-- the line names the first of I1 to I3 of the certificate that fails
pub record SaysInfeasible (certificate : Certificate) (line : List ℕ) : Type 0 where
  pub failure : LinkFailure
  pub fails : first_infeasibility certificate ≡ Some failure
  pub line_is : line ≡ no_line failure.link failure.rule failure.place

-- I1 to I3 hold of every link, and this is the table of the needs; or the line of the first that fails
abbrev pub IsBoundsAnswer : Certificate → ℕ → List ℕ → Type 0
IsBoundsAnswer certificate status text =
    ((status ≡ 0) × (first_infeasibility certificate ≡ None) × (text ≡ bounds_text certificate))
    ⊎ ((status ≡ 1) × SaysInfeasible certificate text)

-- the table, and what its needs prove
pub record IsBoundsProof (certificate : Certificate) (text : List ℕ) : Type 0 where
  pub table : text ≡ bounds_text certificate
  pub needs : ProvesNeeds certificate

-- a table proves its needs
abbrev pub bounds_of : Certificate → Answers
bounds_of certificate = record {
  status = λ status. (text : List ℕ) × IsBoundsAnswer certificate status text;
  text = IsBoundsAnswer certificate;
  proves = IsBoundsProof certificate;
}

-- the table of some valid certificate whose first three inequalities hold
pub record IsBoundsTable (text : List ℕ) : Type 0 where
  pub certificate : Certificate
  pub valid : IsValid certificate
  pub feasible : AreFeasible certificate
  pub text_is : text ≡ bounds_text certificate

-- `bounds CERT` writes the table or says no, in one text
abbrev pub bounds_entry : List ℕ → Entry
bounds_entry certificate = record {
  reading = reads Certificate certificates certificate (λ spelled. answers (bounds_of spelled));
  may_answer = λ status text. ((status ≡ 0) × IsBoundsTable text) ⊎ (status ≡ 1);
  has_one_text = Unit {0};
  in_range = Unit {0};
}
