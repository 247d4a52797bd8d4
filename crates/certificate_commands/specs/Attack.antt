-- What `attack` answers of a certificate: the file of a witness against smaller ratios, to which `check-witness` says yes.
use Rattle.std.specs.Prelude.{◌≡◌, ◌≤◌, ℕ, List, [], length, Option, Some}
use Rattle.te_model.specs.declared.certificate.Certificate.{Certificate}
use Rattle.te_model.specs.declared.certificate.Head.{Head}
use Rattle.te_model.specs.Text.{text as text_of}
use Rattle.te_model.specs.Validity.{IsValidHead}
use Rattle.ratio_witness.specs.declared.witness.Witness.{Witness}
use Rattle.ratio_witness.specs.Answers.{yes_line}
use Rattle.ratio_witness.specs.Text.{witness_text, IsWitnessOf}
use Rattle.witness_search.specs.Attack.{IsAttack, IsAttackFile}
use Rattle.experiment.specs.Schemes.{flow_scheme}
use Rattle.command_frame.specs.Files.{told_files}
use Rattle.command_frame.specs.Reading.{Answers, Reading, answers, reads, Means}
use Rattle.command_frame.specs.Table.{Entry}
use Rattle.command_files.specs.CertificateFile.{certificates}
use Rattle.certificate_commands.specs.CheckWitness.{check_witness_entry, IsBoundProof}
use Rattle.command_files.specs.WitnessFile.{witness_limit}

-- the text is the file of a witness that is chosen by the plans and the routings of multicommodity flow
abbrev pub IsFlowAttack : Head → List ℕ → Type 0
IsFlowAttack head text = IsAttackFile flow_scheme.is_plan flow_scheme.relates head text

-- this witness proves its bound
pub record IsProvedAttack (head : Head) (text : List ℕ) : Type 0 where
  pub witness : Witness
  pub chosen : IsAttack flow_scheme.is_plan flow_scheme.relates head witness
  pub file : text ≡ witness_text witness
  pub proof : IsBoundProof head witness

abbrev pub attack_of : Head → Answers
attack_of head = record {
  status = λ status. status ≡ 0;
  text = λ status text. (status ≡ 0) × IsFlowAttack head text;
  proves = IsProvedAttack head;
}

-- a file to which `check-witness` says yes: it is not too long, and is the witness of a valid head, which proves its bound; and beside a
-- certificate of that head, under any two names, the answer is the line of that yes
pub record IsWitnessedYes (bytes : List ℕ) : Type 0 where
  pub fits : length bytes ≤ witness_limit
  pub head : Head
  pub valid : IsValidHead head
  pub witness : Witness
  pub of_head : IsWitnessOf head witness
  pub file : bytes ≡ witness_text witness
  pub proof : IsBoundProof head witness
  pub answer : (content : List ℕ → Option (List ℕ)) (certificate name : List ℕ) → content certificate ≡ Some (text_of (record { head = head; blocks = [] })) →
      content name ≡ Some bytes → Means (check_witness_entry certificate name).reading (told_files content) 0 (yes_line witness.bound)

-- the head of the certificate is read
abbrev pub attack_reading : List ℕ → Reading
attack_reading certificate = reads Certificate certificates certificate (λ spelled. answers (attack_of spelled.head))

-- `attack CERT` writes a file to which `check-witness` says yes
abbrev pub attack_entry : List ℕ → Entry
attack_entry certificate = record {
  reading = attack_reading certificate;
  may_answer = λ status text. (status ≡ 0) × IsWitnessedYes text;
  has_one_text = ⊥;
  in_range = Unit {0};
}

-- the line of a yes to the witness whose file these bytes are
pub record SaysYesTo (bytes line : List ℕ) : Type 0 where
  pub witness : Witness
  pub file : bytes ≡ witness_text witness
  pub line_is : line ≡ yes_line witness.bound
