-- What `challenge` answers of a certificate: the file of a witness against smaller ratios, no less than one that `attack` answers.
use Rattle.std.specs.Prelude.{◌≡◌, ◌≤◌, ℕ, List}
use Rattle.te_model.specs.declared.certificate.Certificate.{Certificate}
use Rattle.te_model.specs.declared.certificate.Head.{Head}
use Rattle.ratio_witness.specs.declared.witness.Witness.{Witness}
use Rattle.ratio_witness.specs.Text.{witness_text}
use Rattle.witness_search.specs.Challenge.{IsChallenge, IsChallengeFile}
use Rattle.experiment.specs.Schemes.{flow_scheme}
use Rattle.command_frame.specs.Reading.{Answers, Reading, answers, reads}
use Rattle.command_frame.specs.Table.{Entry}
use Rattle.certificate_commands.specs.Attack.{IsWitnessedYes}
use Rattle.command_files.specs.CertificateFile.{certificates}
use Rattle.certificate_commands.specs.CheckWitness.{IsBoundProof}

-- the text is the file of a witness that is chosen by the plans and the routings of multicommodity flow, or of one that shows more
abbrev pub IsFlowChallenge : Head → List ℕ → Type 0
IsFlowChallenge head text = IsChallengeFile flow_scheme.is_plan flow_scheme.relates head text

-- this witness proves its bound
pub record IsProvedChallenge (head : Head) (text : List ℕ) : Type 0 where
  pub witness : Witness
  pub challenge : IsChallenge flow_scheme.is_plan flow_scheme.relates head witness
  pub file : text ≡ witness_text witness
  pub proof : IsBoundProof head witness

abbrev pub challenge_of : Head → Answers
challenge_of head = record {
  status = λ status. status ≡ 0;
  text = λ status text. (status ≡ 0) × IsFlowChallenge head text;
  proves = IsProvedChallenge head;
}

-- the certificate is read
abbrev pub challenge_reading : List ℕ → Reading
challenge_reading certificate = reads Certificate certificates certificate (λ spelled. answers (challenge_of spelled.head))

-- `challenge CERT` writes a file to which `check-witness` says yes
abbrev pub challenge_entry : List ℕ → Entry
challenge_entry certificate = record {
  reading = challenge_reading certificate;
  may_answer = λ status text. (status ≡ 0) × IsWitnessedYes text;
  has_one_text = ⊥;
  in_range = Unit {0};
}

-- the texts are files of two witnesses, of which the second has no lesser bound
pub record ShowsNoLess (lesser greater : List ℕ) : Type 0 where
  pub own : Witness
  pub witness : Witness
  pub own_file : lesser ≡ witness_text own
  pub file : greater ≡ witness_text witness
  pub no_less : own.bound ≤ witness.bound
