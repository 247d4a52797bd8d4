-- What the functions of `check` answer of what was found of a certificate and of a topology.
use Rattle.std.specs.Prelude.{◌≡◌, ◌↔◌, ℕ, List, Bool, IsTrue, Result, Ok, Err}
use Rattle.te_ports.specs.Shown.{Shown}
use Rattle.te_model.specs.declared.certificate.Certificate.{Certificate}
use Rattle.te_model.specs.declared.network.Network.{Network}
use Rattle.ratio_checker.specs.declared.finding.Finding.{Finding}
use Rattle.ratio_checker.specs.declared.finding.Finding.TheVariants as finding
use Rattle.command_frame.specs.declared.answer.Answer.{Answer}
use Rattle.command_frame.specs.declared.answer.Fault.{Fault}
use Rattle.command_frame.specs.Outcome.{ReadsFile, status_of, answer_text}
use Rattle.command_files.specs.Check.{yes_line, no_line}
use Rattle.command_files.specs.TopologyFile.{topologies}

-- the answer says what was found of the certificate
abbrev pub IsLineOf : Certificate → Finding → Answer → Type 0
IsLineOf c finding.Yes answer = (status_of answer ≡ 0) × (answer_text answer ≡ yes_line c.head.ratio c.head.set)
IsLineOf c (finding.No link rule place) answer = (status_of answer ≡ 1) × (answer_text answer ≡ no_line link rule place)

-- whether a file gives this network, or it is refused or not read
abbrev pub ReadsSame : Network → List ℕ → Shown → Shown → Result Bool Fault → Type 0
ReadsSame network file old new (Ok same) =
    (read : Network) × ReadsFile topologies file old new (Ok read) × (IsTrue same ↔ (network ≡ read))
ReadsSame network file old new (Err fault) = ReadsFile topologies file old new (Err fault)
