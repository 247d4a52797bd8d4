-- What `check` answers of a certificate, alone and of a network.
use Rattle.std.specs.Prelude.{◌≡◌, ◌≢◌, ◌≤◌, ◌⊎◌, ℕ, List, [], ◌∷◌, ◌++◌, codes, length, Some, None}
use Rattle.std.specs.Fmt.{decimal}
use Rattle.te_model.specs.declared.certificate.Certificate.{Certificate}
use Rattle.te_model.specs.declared.demand.DemandSet.{DemandSet}
use Rattle.te_model.specs.declared.demand.DemandSet.TheVariants.{All, Margin, Box}
use Rattle.te_model.specs.declared.network.Network.{Network}
use Rattle.te_model.specs.Inequalities.{LinkFailure, first_failure, Holds}
use Rattle.te_model.specs.Ratio.{IsObliviousRatio}
use Rattle.te_model.specs.Text.{Spells}
use Rattle.update_plan.specs.Answer.{no_network_line}
use Rattle.command_frame.specs.Files.{told_files}
use Rattle.command_frame.specs.Reading.{Answers, answers, reads, Means}
use Rattle.command_frame.specs.Table.{Entry}
use Rattle.command_files.specs.CertificateFile.{certificates}
use Rattle.command_files.specs.TopologyFile.{topologies}

-- the line of a yes: the ratio in millionths, and the demand set
abbrev pub yes_line : ℕ → DemandSet → List ℕ
yes_line ratio All = codes "yes ratio " ++ (decimal ratio ++ (codes " set all" ++ 10 ∷ []))
yes_line ratio (Margin num den base) =
    codes "yes ratio " ++ (decimal ratio ++ (codes " set margin " ++ (decimal num ++ (codes " " ++ (decimal den ++ 10 ∷ [])))))
yes_line ratio (Box lower upper) = codes "yes ratio " ++ (decimal ratio ++ (codes " set box" ++ 10 ∷ []))

-- the line of a no: the link, the inequality and the place of the first failure
abbrev pub no_line : ℕ → ℕ → ℕ → List ℕ
no_line link rule place =
    codes "no link " ++ (decimal link ++ (codes " rule I" ++ (decimal rule ++ (codes " place " ++ (decimal place ++ 10 ∷ [])))))

-- no inequality of the certificate fails, and the line says so
pub record SaysYes (certificate : Certificate) (line : List ℕ) : Type 0 where
  pub holds : first_failure certificate ≡ None
  pub line_is : line ≡ yes_line certificate.head.ratio certificate.head.set

-- the line names the first inequality of the certificate that fails
pub record SaysNo (certificate : Certificate) (line : List ℕ) : Type 0 where
  pub failure : LinkFailure
  pub fails : first_failure certificate ≡ Some failure
  pub line_is : line ≡ no_line failure.link failure.rule failure.place

-- the answer on a certificate: its status and its line
abbrev pub IsVerdict : Certificate → ℕ → List ℕ → Type 0
IsVerdict certificate status line = ((status ≡ 0) × SaysYes certificate line) ⊎ ((status ≡ 1) × SaysNo certificate line)

-- the answer on a certificate which is to be of this network: names and links agree, in order
abbrev pub IsNetworkVerdict : Certificate → Network → ℕ → List ℕ → Type 0
IsNetworkVerdict certificate network status line =
    ((certificate.head.network ≡ network) × IsVerdict certificate status line)
    ⊎ ((certificate.head.network ≢ network) × (status ≡ 1) × (line ≡ no_network_line))

-- the inequalities of the certificate hold, and so its ratio is an oblivious ratio of its routing
pub record IsProof (certificate : Certificate) : Type 0 where
  pub holds : Holds certificate
  pub ratio : IsObliviousRatio certificate.head.network certificate.head.routes certificate.head.set certificate.head.ratio

-- a yes proves the ratio
abbrev pub verdict_on : Certificate → Answers
verdict_on certificate = record {
  status = λ status. (line : List ℕ) × IsVerdict certificate status line;
  text = IsVerdict certificate;
  proves = λ line. IsProof certificate;
}

-- and that of a network, on this network
abbrev pub network_verdict_on : Certificate → Network → Answers
network_verdict_on certificate network = record {
  status = λ status. (line : List ℕ) × IsNetworkVerdict certificate network status line;
  text = IsNetworkVerdict certificate network;
  proves = λ line. (certificate.head.network ≡ network) × IsProof certificate;
}

-- `check CERT` says yes or no of the certificate, in one text
abbrev pub check_entry : List ℕ → Entry
check_entry certificate = record {
  reading = reads Certificate certificates certificate (λ spelled. answers (verdict_on spelled));
  may_answer = λ status text. status ≤ 1;
  has_one_text = Unit {0};
  in_range = Unit {0};
}

-- and so does `check CERT TOPOLOGY`
abbrev pub check_network_entry : List ℕ → List ℕ → Entry
check_network_entry certificate topology = record {
  reading = reads Certificate certificates certificate (λ spelled. reads Network topologies topology (λ network. answers (network_verdict_on spelled network)));
  may_answer = λ status text. status ≤ 1;
  has_one_text = Unit {0};
  in_range = Unit {0};
}

-- a file to which `check` says yes: it is not too long, proves a ratio, and under any name its answer is the line of that yes
pub record IsAnsweredYes (bytes : List ℕ) : Type 0 where
  pub fits : length bytes ≤ certificates.limit bytes
  pub certificate : Certificate
  pub spelled : Spells bytes certificate
  pub proof : IsProof certificate
  pub answer : (file : List ℕ) →
      Means (check_entry file).reading (told_files (λ name. Some bytes)) 0 (yes_line certificate.head.ratio certificate.head.set)
