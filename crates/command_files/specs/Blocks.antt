-- The file of a certificate that is read one block at a time.
use Rattle.std.specs.Prelude.{◌≡◌, ◌≢◌, ℕ, List, codes, Result, Ok, Err, IsErrOf}
use Rattle.te_ports.specs.Ports.{Rose}
use Rattle.te_ports.specs.Record.{Pass, pass}
use Rattle.te_model.specs.declared.certificate.Block.{Block}
use Rattle.te_model.specs.declared.certificate.Head.{Head}
use Rattle.block_reader.specs.declared.stream_fault.StreamFault.{StreamFault}
use Rattle.block_reader.specs.declared.stream_fault.StreamFault.TheVariants as faults
use Rattle.block_reader.specs.Blocks.{IsFaultOf, IsTextOf}
use Rattle.command_frame.specs.declared.answer.Fault.{Fault}
use Rattle.command_frame.specs.declared.answer.Fault.TheVariants.{Read, Memory}
use Rattle.command_frame.specs.Reading.{too_long}
use Rattle.command_files.specs.CertificateFile.{certificates}
use Rattle.command_files.specs.Refusals.{shape_reason, rule_reason}
use Rattle.te_ports.specs.Shown.{Shown}
use Rattle.command_frame.specs.Outcome.{KeepsDepot, ReadsFile, IsRefusal}

-- the feed was given the head and the blocks of a certificate whose text is all that reads gave
abbrev pub IsFedWhole : {F : Type 0} → (F → Head → List Block → Type 0) → Pass → F → Type 0
IsFedWhole stands_for gave feed = (head : Head) × (blocks : List Block) × stands_for feed head blocks × IsTextOf gave head blocks

-- the contract of a call that reads a file block by block: a fault is that of what its reads gave, and a failed read is one of the call
pub record ReadsOn {A : Type 0} (file : List ℕ) (old new : Shown) (result : Result A StreamFault) : Type 0 where
  pub refused : (fault : StreamFault) → result ≡ Err fault → IsFaultOf (pass file old.gave new.gave) fault
  pub failed : IsErrOf result faults.Failed → Rose (old.faults file) (new.faults file)
  pub steady : result ≢ Err faults.Failed → new.faults ≡ old.faults
  pub may : KeepsDepot old new

-- what is answered where the file has this fault
abbrev pub IsAnswerTo : List ℕ → StreamFault → Fault → Type 0
IsAnswerTo file faults.Failed answer = answer ≡ Read
IsAnswerTo file faults.TooLong answer = IsRefusal file too_long answer
IsAnswerTo file (faults.Shape line) answer = IsRefusal file (shape_reason line) answer
IsAnswerTo file (faults.Rule rule) answer = IsRefusal file (rule_reason (codes "V") rule) answer
IsAnswerTo file faults.Memory answer = answer ≡ Memory

-- the feed was given the certificate that the file gives, or the file is refused or not read
abbrev pub FeedsFile : {F : Type 0} → (F → Head → List Block → Type 0) → List ℕ → Shown → Shown → Result F Fault → Type 0
FeedsFile stands_for file old new (Ok feed) =
    (head : Head) × (blocks : List Block) × stands_for feed head blocks
    × ReadsFile certificates file old new (Ok (record { head = head; blocks = blocks }))
FeedsFile stands_for file old new (Err fault) = ReadsFile certificates file old new (Err fault)

-- this is the head of a certificate whose text is all that reads gave
abbrev pub IsHeadOf : Pass → Head → Type 0
IsHeadOf gave head = (blocks : List Block) × IsTextOf gave head blocks

-- it is the head of the certificate that the file gives, or the file is refused or not read
abbrev pub HeadsFile : List ℕ → Shown → Shown → Result Head Fault → Type 0
HeadsFile file old new (Ok head) = (blocks : List Block) × ReadsFile certificates file old new (Ok (record { head = head; blocks = blocks }))
HeadsFile file old new (Err fault) = ReadsFile certificates file old new (Err fault)
