-- Where a reader of blocks stands in the file of a certificate.
use Rattle.std.specs.Prelude.{◌≡◌, ℕ, List, ◌++◌, Bool, true, false, Option, Some, None, length, string_bytes, codes, Result, Ok, Err}
use Rattle.te_model.specs.declared.certificate.Block.{Block}
use Rattle.te_model.specs.declared.certificate.Certificate.{Certificate}
use Rattle.te_model.specs.declared.certificate.Head.{Head}
use Rattle.te_model.specs.declared.certificate.RuleFault.{RuleFault}
use Rattle.te_model.specs.FileLimit.{file_limit}
use Rattle.te_model.specs.Formats.{limits_of}
use Rattle.te_model.specs.Text.{Spells}
use Rattle.te_model.specs.Faults.{IsShapeFault, IsRuleFault}
use Rattle.te_model.specs.Validity.{head_fault, blocks_fault, link_before, earlier_fault}
use Rattle.te_ports.specs.Record.{Pass, IsBegun, IsReadInPart, IsReadPastAllowed}
use Rattle.cert_text.specs.Place.{Place, place, ◌>>=◌}
use Rattle.cert_text.specs.Reading.{narrow_number, read_many}
use Rattle.cert_text.specs.Grammar.{read_counted, read_block, read_closing, read_certificate, counts_of}
use Rattle.cert_text.specs.Fits.{FitsHead}
use Rattle.block_reader.specs.declared.block_reader.BlockReader.{BlockReader}
use Rattle.block_reader.specs.declared.blocks.Blocks.{Blocks}
use Rattle.block_reader.specs.declared.lines.Lines.{Lines}
use Rattle.block_reader.specs.declared.stream_fault.StreamFault.{StreamFault}
use Rattle.block_reader.specs.declared.stream_fault.StreamFault.TheVariants as faults
use Rattle.block_reader.specs.Standing.{StandsIn}
use Rattle.block_reader.specs.Answers.{Gives, IsBehind, IsWhole, StopsAs, place_in}

-- the name of the file
abbrev pub name_of : BlockReader → List ℕ
name_of r = string_bytes r.blocks.name

-- the block that was read last
abbrev pub lent_block : BlockReader → Block
lent_block r = r.blocks.room.block

-- its link, if one was read
abbrev pub last_link : BlockReader → Option ℕ
last_link r = r.blocks.before

-- how many blocks are still to come
abbrev pub blocks_left : BlockReader → ℕ
blocks_left r = r.blocks.left

-- whether the block that was read last is handed out
abbrev pub holds_block : BlockReader → Bool
holds_block r = r.held

-- the fault that was answered
abbrev pub noted_fault : BlockReader → Option StreamFault
noted_fault r = r.fault

-- whether the end was answered
abbrev pub is_over : BlockReader → Bool
is_over r = r.over

-- what is still read behind a head and some blocks
unfoldable pub rest_at : Head → List Block → ℕ → Place → Result (Certificate × Place) ℕ
rest_at head blocks left p = do
  more ← read_many left (read_block (limits_of head.format) narrow_number (counts_of head)) p
  e ← read_closing more.1
  Ok (record { head = head; blocks = blocks ++ more.0 }, e)

-- the blocks are counted as the head says, which has the shape of its format
pub record AreOf (b : Blocks) (head : Head) : Type 0 where
  pub limits : b.room.limits ≡ limits_of head.format
  pub counts : b.room.counts ≡ counts_of head
  pub fits : FitsHead (limits_of head.format) head

-- so many blocks were read, and this is the link of the last of them
pub record HasCounted (b : Blocks) (blocks : List Block) : Type 0 where
  pub place : b.place ≡ length blocks
  pub before : b.before ≡ link_before blocks (length blocks)

-- the name, the limits and the counts stay as they were
pub record SameRoom (old new : Blocks) : Type 0 where
  pub name : new.name ≡ old.name
  pub limits : new.room.limits ≡ old.room.limits
  pub counts : new.room.counts ≡ old.room.counts

-- the block, where one was read
abbrev pub block_in : {X : Type 0} → Result X StreamFault → Block → Result Block StreamFault
block_in (Ok x) block = Ok block
block_in (Err fault) block = Err fault

-- what is behind the head and the blocks is all that is left to read of each content in which the reader stands
pub record AreBehind (gave : Pass) (b : Blocks) (head : Head) (blocks : List Block) : Type 0 where
  pub passed : List ℕ
  pub behind : IsBehind gave b.lines passed
  pub read : (content : List ℕ) → StandsIn content b.lines.window passed →
      read_certificate narrow_number (place 1 content) ≡ rest_at head blocks b.left (place_in b.lines passed content)
  pub counted : HasCounted b blocks
  pub of_head : AreOf b head

-- no rule of the head and the blocks fails
pub record KeepsRules (head : Head) (blocks : List Block) : Type 0 where
  pub sound_head : head_fault head ≡ None
  pub sound_blocks : blocks_fault head.network None 0 blocks ≡ None

-- the earliest fault of the head and the blocks
abbrev pub IsEarliest : Head → List Block → RuleFault → Type 0
IsEarliest head blocks rule = earlier_fault (head_fault head) (blocks_fault head.network None 0 blocks) ≡ Some rule

-- reads gave a text that has the shape of the certificate of this head and these blocks
abbrev pub IsShapeOf : Pass → Head → List Block → Type 0
IsShapeOf gave head blocks = (bytes : List ℕ) × IsWhole gave bytes
    × ((end : Place) × (read_certificate narrow_number (place 1 bytes) ≡ Ok (record { head = head; blocks = blocks }, end)))

-- the reader's counts are those of the head
abbrev pub IsReaderOf : BlockReader → Head → Type 0
IsReaderOf r head = AreOf r.blocks head

-- the lines that reads gave before the reader's place are this head and these blocks, of which no rule fails
pub record HasRead (gave : Pass) (r : BlockReader) (head : Head) (blocks : List Block) : Type 0 where
  pub stands : AreBehind gave r.blocks head blocks
  pub sound : KeepsRules head blocks
  pub no_fault : r.fault ≡ None
  pub not_over : r.over ≡ false

-- the fault is that of what reads gave: a read can fail behind any part of a file within its limit, and memory be short behind any
-- pass that was begun
abbrev pub IsFaultOf : Pass → StreamFault → Type 0
IsFaultOf gave faults.Failed = IsReadInPart gave file_limit
IsFaultOf gave faults.TooLong = IsReadPastAllowed gave file_limit
IsFaultOf gave (faults.Shape line) = (bytes : List ℕ) × IsWhole gave bytes × IsShapeFault bytes line
IsFaultOf gave (faults.Rule rule) = (bytes : List ℕ) × IsWhole gave bytes × IsRuleFault bytes rule
IsFaultOf gave faults.Memory = IsBegun gave

-- a reader behind a head and the count of its blocks, of which none was read
pub record IsBehindHead (r : BlockReader) (name : List ℕ) (head : Head) : Type 0 where
  pub named : name_of r ≡ name
  pub limits : r.blocks.room.limits ≡ limits_of head.format
  pub counts : r.blocks.room.counts ≡ counts_of head
  pub place : r.blocks.place ≡ 0
  pub before : r.blocks.before ≡ None
  pub no_fault : r.fault ≡ None
  pub not_over : r.over ≡ false

-- the line of the count of the blocks
abbrev pub block_count : Head → Place → Result (ℕ × Place) ℕ
block_count head = read_counted (codes "blocks ") 0 (limits_of head.format).links

-- the count was read behind the head, and the reader stands behind it; or why there is none
abbrev pub CountsBlocks : Pass → Pass → Lines → Head → Result BlockReader StreamFault → Type 0
CountsBlocks gave given lines head (Ok r) = Gives gave given lines r.blocks.lines (block_count head) r.blocks.left
CountsBlocks gave given lines head (Err fault) = (passed : List ℕ) → IsBehind gave lines passed → StopsAs given lines passed (block_count head) fault

-- reads gave the text of the certificate of this head and these blocks
abbrev pub IsTextOf : Pass → Head → List Block → Type 0
IsTextOf gave head blocks = (bytes : List ℕ) × IsWhole gave bytes × Spells bytes (record { head = head; blocks = blocks })

-- where a reader stands in what reads gave: behind a head and some blocks, at the end of a certificate, or at a fault
abbrev pub StandsAfter : Pass → BlockReader → Option StreamFault → Bool → Type 0
StandsAfter gave r (Some fault) over = IsFaultOf gave fault
StandsAfter gave r None false = (head : Head) × (blocks : List Block) × HasRead gave r head blocks
StandsAfter gave r None true = (head : Head) × (blocks : List Block) × IsTextOf gave head blocks

abbrev pub ReaderStandsAt : Pass → BlockReader → Type 0
ReaderStandsAt gave r = StandsAfter gave r r.fault r.over
