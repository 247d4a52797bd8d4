-- One block after another, to the end of the file.
use Rattle.std.proofs.Common.{◌≡◌, ◌∙◌, ℕ, ◌+◌, true, List, [], ◌∷◌, ◌++◌, length, Option, Some, None, Result, Err, sym, ap, subst}
use Rattle.te_ports.specs.Record.{Pass}
use Rattle.std.proofs.Math.ListN.{replicate}
use Rattle.std.proofs.lemmas.List.{length-replicate}
use Rattle.te_model.specs.declared.network.Network.{Network}
use Rattle.te_model.specs.declared.certificate.Block.{Block}
use Rattle.te_model.specs.declared.certificate.Head.{Head}
use Rattle.te_model.specs.declared.certificate.RuleFault.{RuleFault}
use Rattle.te_model.specs.Network.{node_count, link_count, no_link}
use Rattle.te_model.specs.Formats.{limits_of}
use Rattle.te_model.specs.Validity.{block_fault, earlier_fault, follows, link_before, IsValidBlock}
use Rattle.cert_text.specs.Reading.{narrow_number}
use Rattle.cert_text.specs.Grammar.{read_block}
use Rattle.cert_text.specs.Fits.{FitsBlock}
use Rattle.cert_text.specs.declared.fault.Stop.{Stop}
use Rattle.cert_text.specs.declared.limits.Counts.{Counts}
use Rattle.block_reader.specs.declared.blocks.Blocks.{Blocks}
use Rattle.block_reader.specs.declared.stream_fault.StreamFault.{StreamFault}
use Rattle.block_reader.specs.Answers.{Gives}
use Rattle.block_reader.specs.Blocks.{AreOf, AreBehind, SameRoom, KeepsRules, IsEarliest, IsShapeOf, IsFaultOf}
use Rattle.block_reader.proofs.Handing.{block_handed, sound_more, first_fault_is, earliest_more, fault_in, sound_block, valid_block}

-- ---- what a call says of the file of one name

-- it refuses the file
abbrev pub Refuses : Pass → Pass → Blocks → StreamFault → Type 0
Refuses gave given b fault = (head : Head) → (blocks : List Block) → AreBehind gave b head blocks → IsFaultOf given fault

-- it refuses the file, of which a rule fails
abbrev pub Judges : Pass → Pass → Blocks → RuleFault → StreamFault → Type 0
Judges gave given b first fault = (head : Head) → (blocks : List Block) → AreBehind gave b head blocks → IsEarliest head blocks first → IsFaultOf given fault

-- it hands out one block more
abbrev pub Hands : Pass → Pass → Blocks → Blocks → Type 0
Hands gave given old new = (head : Head) → (blocks : List Block) → AreBehind gave old head blocks → AreBehind given new head (blocks ++ new.room.block ∷ [])

-- it finds the end
abbrev pub Ends : Pass → Pass → Blocks → Type 0
Ends gave given b = (head : Head) → (blocks : List Block) → AreBehind gave b head blocks → IsShapeOf given head blocks

-- ---- faults that are answered

pub stop_is : (s t : Stop) → s ≡ t → ◌≡◌ {A = Result (Unit {0}) Stop} (Err s) (Err t)
stop_is s t e = ap (λ x. Err x) e

pub fault_is : {A : Type 0} (f t : StreamFault) → ◌≡◌ {A = Result A StreamFault} (Err f) (Err t) → f ≡ t
fault_is f t e = let same : f ≡ t = cc in same

-- ---- the fault of the block that was read

-- what the block says of each network with the counts of the reader
abbrev pub IsFaultOfBlock : Counts → Option ℕ → ℕ → Block → Option RuleFault → Type 0
IsFaultOfBlock counts before place b fault =
    (net : Network) → node_count net ≡ counts.nodes → link_count net ≡ counts.links → fault ≡ block_fault net before place b

abbrev some_network : Counts → Network
some_network counts = record { names = replicate counts.nodes []; links = replicate counts.links no_link }

pub follows_of : (counts : Counts) (before : Option ℕ) (place : ℕ) (b : Block) (fault : Option RuleFault) → IsFaultOfBlock counts before place b fault → fault ≡ None →
    follows before b.link ≡ true
follows_of counts before place b fault is none =
    let net = some_network counts in
    (sound_block net before place b (sym (is net (length-replicate counts.nodes []) (length-replicate counts.links no_link)) ∙ none)).1

of_head : (b : Blocks) (head : Head) (before : Option ℕ) (place : ℕ) (block : Block) (fault : Option RuleFault) → AreOf b head →
    IsFaultOfBlock b.room.counts before place block fault → fault ≡ block_fault head.network before place block
of_head b head before place block fault are is = is head.network (ap (λ (c : Counts). c.nodes) (sym are.counts)) (ap (λ (c : Counts). c.links) (sym are.counts))

fault_behind : (gave : Pass) (b : Blocks) (head : Head) (blocks : List Block) (block : Block) (fault : Option RuleFault) → AreBehind gave b head blocks →
    IsFaultOfBlock b.room.counts b.before b.place block fault → fault ≡ block_fault head.network (link_before blocks (length blocks)) (length blocks) block
fault_behind gave b head blocks block fault are is =
    fault_in gave b head blocks block fault are (of_head b head b.before b.place block fault are.of_head is)

pub valid_of : (b : Blocks) (head : Head) (block : Block) (fault : Option RuleFault) → FitsBlock b.room.limits b.room.counts block →
    IsFaultOfBlock b.room.counts b.before b.place block fault → fault ≡ None → AreOf b head → IsValidBlock head block
valid_of b head block fault fits is none are =
    let parts = sound_block head.network b.before b.place block (sym (of_head b head b.before b.place block fault are is) ∙ none) in
    valid_block head block are.fits
    (subst (λ c. FitsBlock (limits_of head.format) c block) are.counts (subst (λ l. FitsBlock l b.room.counts block) are.limits fits)) parts.0 parts.2

-- ---- one block more

pub next_handed : (gave given : Pass) (old mid new : Blocks) (head : Head) (blocks : List Block) →
    Gives gave given old.lines mid.lines (read_block old.room.limits narrow_number old.room.counts) mid.room.block →
    SameRoom old mid → mid.left ≡ old.left → mid.place ≡ old.place →
    new.lines ≡ mid.lines → SameRoom mid new → new.room.block ≡ mid.room.block → new.left + 1 ≡ mid.left → new.place ≡ mid.place + 1 →
    new.before ≡ Some mid.room.block.link →
    AreBehind gave old head blocks → AreBehind given new head (blocks ++ new.room.block ∷ [])
next_handed gave given old mid new head blocks gives room left place lines rest block fewer more before are =
    subst (λ b. AreBehind given new head (blocks ++ b ∷ [])) (sym block)
    (block_handed gave given old new head blocks mid.room.block (fewer ∙ left) (more ∙ ap (λ n. n + 1) place) before
    (rest.limits ∙ room.limits) (rest.counts ∙ room.counts)
    (subst (λ l. Gives gave given old.lines l (read_block old.room.limits narrow_number old.room.counts) mid.room.block) (sym lines) gives) are)

-- a block whose rules hold
pub sound_next : (gave : Pass) (old new : Blocks) (head : Head) (blocks : List Block) (fault : Option RuleFault) →
    AreBehind gave old head blocks → IsFaultOfBlock old.room.counts old.before old.place new.room.block fault → fault ≡ None → KeepsRules head blocks →
    KeepsRules head (blocks ++ new.room.block ∷ [])
sound_next gave old new head blocks fault are is none sound =
    sound_more head blocks new.room.block (sym (fault_behind gave old head blocks new.room.block fault are is) ∙ none) sound

-- a block of which a rule fails
pub fault_next : (gave : Pass) (old new : Blocks) (head : Head) (blocks : List Block) (fault : Option RuleFault) (rule : RuleFault) →
    AreBehind gave old head blocks → IsFaultOfBlock old.room.counts old.before old.place new.room.block fault → fault ≡ Some rule → KeepsRules head blocks →
    IsEarliest head (blocks ++ new.room.block ∷ []) rule
fault_next gave old new head blocks fault rule are is some sound =
    first_fault_is head blocks new.room.block rule (sym (fault_behind gave old head blocks new.room.block fault are is) ∙ some) sound

-- ---- all that are left

pub same_room_then : (b0 b1 b2 : Blocks) → SameRoom b0 b1 → SameRoom b1 b2 → SameRoom b0 b2
same_room_then b0 b1 b2 first next = record { name = next.name ∙ first.name; limits = next.limits ∙ first.limits; counts = next.counts ∙ first.counts }

-- more blocks were read, and this is the earliest fault of all of them where that was it before
abbrev pub Carries : Pass → Pass → Blocks → Blocks → RuleFault → RuleFault → Type 0
Carries gave given old new first last = (head : Head) → (blocks : List Block) → AreBehind gave old head blocks →
    (more : List Block) × AreBehind given new head more × (IsEarliest head blocks first → IsEarliest head more last)

pub carries_on : (g0 g1 g2 : Pass) (b0 b1 b2 : Blocks) (first now next : RuleFault) (fault : Option RuleFault) → Carries g0 g1 b0 b1 first now →
    Hands g1 g2 b1 b2 → IsFaultOfBlock b1.room.counts b1.before b1.place b2.room.block fault → Some next ≡ earlier_fault (Some now) fault → Carries g0 g2 b0 b2 first next
carries_on g0 g1 g2 b0 b1 b2 first now next fault carries handed is then head blocks are =
    let so_far = carries head blocks are in (
      so_far.0 ++ b2.room.block ∷ [],
      handed head so_far.0 so_far.1,
      λ e. earliest_more head so_far.0 b2.room.block now next fault (fault_behind g1 b1 head so_far.0 b2.room.block fault so_far.1 is) then (so_far.2 e),
    )
