-- What reading a file of a hose, or of a hose certificate, answers.
use Rattle.std.specs.Prelude.{◌≡◌, ◌⊎◌, ◌<◌, ◌^◌, ℕ, List, codes, map, Result, Ok, Err, Option, Some, None, IsTrue}
use Rattle.te_model.specs.declared.certificate.RuleFault.{RuleFault}
use Rattle.te_model.specs.declared.network.Network.{Network}
use Rattle.te_model.specs.Network.{node_count, link_count}
use Rattle.cert_text.specs.Reading.{narrow_number}
use Rattle.number_tables.specs.declared.fault.TableFault.{TableFault}
use Rattle.number_tables.specs.declared.fault.TableFault.TheVariants as tables
use Rattle.number_tables.specs.Due.{Due, LeavesSmallFiles}
use Rattle.hose_bound.specs.declared.fault.HoseFault.{HoseFault}
use Rattle.hose_bound.specs.declared.fault.HoseFault.TheVariants as faults
use Rattle.hose_bound.specs.declared.hose.Hose.{Hose}
use Rattle.hose_bound.specs.declared.hose.HoseBlock.{HoseBlock}
use Rattle.hose_bound.specs.declared.hose.HoseCert.{HoseCert}
use Rattle.hose_bound.specs.Files.{bounds_text, bounds_due, is_shaped_hose, hose_cert_text, hose_cert_due, IsShapedCert}
use Rattle.hose_bound.specs.Rules.{hose_fault, hose_cert_fault}

-- the fault of a table as one of a file of hoses
abbrev pub fault_of : TableFault → HoseFault
fault_of (tables.Shape k) = faults.Shape k
fault_of tables.Memory = faults.Memory

-- the bytes are the file of this hose, of so many nodes
abbrev pub SpellsHose : ℕ → List ℕ → Hose → Type 0
SpellsHose nodes bytes h = IsTrue (is_shaped_hose nodes h) × (bytes ≡ bounds_text h)

-- the bytes are the file of this hose certificate
abbrev pub SpellsCert : ℕ → List ℕ → HoseCert → Type 0
SpellsCert nodes bytes c = IsShapedCert nodes c × (bytes ≡ hose_cert_text c)

-- what is kept of a block, and of a hose certificate: no more than 32 bits of the link, and past these the greatest number
abbrev pub keep_block : HoseBlock → HoseBlock
keep_block b = record { link = narrow_number b.link; tails = b.tails; heads = b.heads }

abbrev pub keep_cert : HoseCert → HoseCert
keep_cert c = record { hose = c.hose; bound = c.bound; blocks = map keep_block c.blocks }

-- keeping no more of the links changes no rule's answer
abbrev pub KeptHasSameFault : Type 0
KeptHasSameFault = (net : Network) (c : HoseCert) → link_count net < 2 ^ 32 → hose_cert_fault net (keep_cert c) ≡ hose_cert_fault net c

-- a fault of the table is the line at which the bytes leave the small files of this kind
abbrev pub LeavesByFault : List ℕ → Due → List ℕ → TableFault → Type 0
LeavesByFault first due bytes (tables.Shape k) = LeavesSmallFiles first due bytes k
LeavesByFault first due bytes tables.Memory = Unit {0}

-- a hose that the bytes spell, or the line at which they leave the files of hoses
abbrev pub SpellsHoseOrFault : ℕ → List ℕ → Result Hose TableFault → Type 0
SpellsHoseOrFault nodes bytes (Ok h) = SpellsHose nodes bytes h
SpellsHoseOrFault nodes bytes (Err e) = LeavesByFault (codes "yates-bounds 1") (bounds_due nodes) bytes e

-- what is kept of a hose certificate that the bytes spell, or the line at which they leave the files of hose certificates
abbrev pub SpellsKeptCert : ℕ → List ℕ → Result HoseCert TableFault → Type 0
SpellsKeptCert nodes bytes (Ok kept) = (c : HoseCert) × SpellsCert nodes bytes c × (kept ≡ keep_cert c)
SpellsKeptCert nodes bytes (Err e) = LeavesByFault (codes "yates-hose 1") (hose_cert_due nodes) bytes e

-- what is read where the first rule that fails is this one, or none does
abbrev pub read_unless : {X : Type 0} → Option RuleFault → X → Result X HoseFault
read_unless None x = Ok x
read_unless (Some f) x = Err (faults.Rule f)

-- what the bytes mean as a hose of a network
pub data MeansHose (net : Network) (bytes : List ℕ) (answer : Result Hose HoseFault) : Type 0 where
  hose_spelled : (h : Hose) → SpellsHose (node_count net) bytes h → answer ≡ read_unless (hose_fault (node_count net) h) h → MeansHose net bytes answer
  hose_misshaped : (k : ℕ) → LeavesSmallFiles (codes "yates-bounds 1") (bounds_due (node_count net)) bytes k → answer ≡ Err (faults.Shape k) →
      MeansHose net bytes answer

-- what the bytes mean as a hose certificate of a network
pub data MeansHoseCert (net : Network) (bytes : List ℕ) (answer : Result HoseCert HoseFault) : Type 0 where
  cert_spelled : (c : HoseCert) → SpellsCert (node_count net) bytes c → answer ≡ read_unless (hose_cert_fault net c) c → MeansHoseCert net bytes answer
  cert_misshaped : (k : ℕ) → LeavesSmallFiles (codes "yates-hose 1") (hose_cert_due (node_count net)) bytes k → answer ≡ Err (faults.Shape k) →
      MeansHoseCert net bytes answer

-- the answer is what the bytes mean, or memory ran out
abbrev pub GivesHose : Network → List ℕ → Result Hose HoseFault → Type 0
GivesHose net bytes answer = MeansHose net bytes answer ⊎ (answer ≡ Err faults.Memory)

abbrev pub GivesHoseCert : Network → List ℕ → Result HoseCert HoseFault → Type 0
GivesHoseCert net bytes answer = MeansHoseCert net bytes answer ⊎ (answer ≡ Err faults.Memory)

-- the answer is this hose certificate, or memory ran out
abbrev pub GivesCertOrMemory : Result HoseCert HoseFault → HoseCert → Type 0
GivesCertOrMemory answer c = (answer ≡ Ok c) ⊎ (answer ≡ Err faults.Memory)

-- Bytes have one meaning as a hose of a network.
abbrev pub HosesHaveOneMeaning : Type 0
HosesHaveOneMeaning =
    (net : Network) (bytes : List ℕ) →
    (answer : Result Hose HoseFault) × MeansHose net bytes answer
    × ((other : Result Hose HoseFault) → MeansHose net bytes other → answer ≡ other)

-- Bytes have one meaning as a hose certificate of a network.
abbrev pub HoseCertsHaveOneMeaning : Type 0
HoseCertsHaveOneMeaning =
    (net : Network) (bytes : List ℕ) →
    (answer : Result HoseCert HoseFault) × MeansHoseCert net bytes answer
    × ((other : Result HoseCert HoseFault) → MeansHoseCert net bytes other → answer ≡ other)
