-- What `reprice` answers of a certificate and a topology of its links: the file of the same routing on the capacities of the topology.
use Rattle.std.specs.Prelude.{◌≡◌, ◌⊎◌, ℕ, List, None}
use Rattle.te_model.specs.declared.certificate.Certificate.{Certificate}
use Rattle.te_model.specs.declared.network.Network.{Network}
use Rattle.te_model.specs.Feasible.{first_infeasibility}
use Rattle.te_model.specs.Text.{Spells, text as text_of}
use Rattle.link_bounds.specs.Repriced.{repriced}
use Rattle.command_frame.specs.Reading.{Answers, Reading, answers, reads}
use Rattle.command_frame.specs.Table.{Entry}
use Rattle.certificate_commands.specs.Bounds.{SaysInfeasible}
use Rattle.command_files.specs.CapacityFile.{capacities}
use Rattle.command_files.specs.CertificateFile.{certificates}
use Rattle.command_files.specs.Check.{IsAnsweredYes, IsProof}

-- I1 to I3 hold of every link, and this is the file of the repriced certificate; or the line of the first that fails
abbrev pub IsRepricing : Certificate → Network → ℕ → List ℕ → Type 0
IsRepricing certificate network status text =
    ((status ≡ 0) × (first_infeasibility certificate ≡ None) × (text ≡ text_of (repriced certificate network)))
    ⊎ ((status ≡ 1) × SaysInfeasible certificate text)

-- the file is that of the repriced certificate, whose ratio it proves
pub record IsRepricedProof (certificate : Certificate) (network : Network) (file : List ℕ) : Type 0 where
  pub spelled : Spells file (repriced certificate network)
  pub proof : IsProof (repriced certificate network)

abbrev pub repricing_of : Certificate → Network → Answers
repricing_of certificate network = record {
  status = λ status. (text : List ℕ) × IsRepricing certificate network status text;
  text = IsRepricing certificate network;
  proves = IsRepricedProof certificate network;
}

-- the topology is read
abbrev pub capacities_reading : List ℕ → Certificate → Reading
capacities_reading topology certificate =
    reads Network (capacities certificate) topology (λ network. answers (repricing_of certificate network))

-- `reprice CERT TOPOLOGY` writes a file to which `check` says yes, or says no, in one text
abbrev pub reprice_entry : List ℕ → List ℕ → Entry
reprice_entry certificate topology = record {
  reading = reads Certificate certificates certificate (capacities_reading topology);
  may_answer = λ status text. ((status ≡ 0) × IsAnsweredYes text) ⊎ (status ≡ 1);
  has_one_text = Unit {0};
  in_range = Unit {0};
}
