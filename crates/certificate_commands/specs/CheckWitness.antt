-- What `check-witness` answers of a certificate and a witness against smaller ratios.
use Rattle.std.specs.Prelude.{◌≤◌, ℕ, List, length}
use Rattle.te_model.specs.declared.certificate.Certificate.{Certificate}
use Rattle.te_model.specs.declared.certificate.Head.{Head}
use Rattle.te_model.specs.Demand.{IsMember}
use Rattle.ratio_witness.specs.declared.witness.Witness.{Witness}
use Rattle.ratio_witness.specs.Answers.{IsBoundVerdict}
use Rattle.ratio_witness.specs.Rules.{demand_of}
use Rattle.ratio_witness.specs.Witness.{IsRivalOf, NoLowerRatio}
use Rattle.command_frame.specs.Reading.{Answers, Reading, answers, reads}
use Rattle.command_frame.specs.Table.{Entry}
use Rattle.command_files.specs.CertificateFile.{certificates}
use Rattle.command_files.specs.WitnessFile.{witnesses}

-- the matrix of the witness is of the set and its rival routes it, and so no number below its bound is an oblivious ratio of the routing
pub record IsBoundProof (head : Head) (witness : Witness) : Type 0 where
  pub member : IsMember head.set (length head.routes) (demand_of witness)
  pub rival : IsRivalOf head.network head.routes (demand_of witness) witness.rival
  pub bound : NoLowerRatio head.network head.routes head.set witness.bound

-- a yes proves the bound
abbrev pub bound_verdict_on : Head → Witness → Answers
bound_verdict_on head witness = record {
  status = λ status. (line : List ℕ) × IsBoundVerdict head witness status line;
  text = IsBoundVerdict head witness;
  proves = λ line. IsBoundProof head witness;
}

-- the witness of a head is read
abbrev pub witness_reading : List ℕ → Head → Reading
witness_reading witness head = reads Witness (witnesses head) witness (λ rival. answers (bound_verdict_on head rival))

-- `check-witness CERT WITNESS` says yes or no of the witness, in one text
abbrev pub check_witness_entry : List ℕ → List ℕ → Entry
check_witness_entry certificate witness = record {
  reading = reads Certificate certificates certificate (λ spelled. witness_reading witness spelled.head);
  may_answer = λ status text. status ≤ 1;
  has_one_text = Unit {0};
  in_range = Unit {0};
}
