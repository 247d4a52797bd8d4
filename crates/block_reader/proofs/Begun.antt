-- Whatever a reader answers, its reads are those of a pass that was begun.
use Rattle.std.proofs.Common.{◌≡◌, ◌∙◌, List, [], ◌∷◌, ◌++◌, Bool, true, false, not, Option, Some, None, inl, inr, refl, sym, subst₂}
use Rattle.te_model.specs.declared.certificate.Block.{Block}
use Rattle.te_model.specs.declared.certificate.Head.{Head}
use Rattle.te_ports.specs.Record.{Pass, IsBegun}
use Rattle.block_reader.specs.declared.block_reader.BlockReader.{BlockReader}
use Rattle.block_reader.specs.declared.stream_fault.StreamFault.{StreamFault}
use Rattle.block_reader.specs.declared.stream_fault.StreamFault.TheVariants as faults
use Rattle.block_reader.specs.Blocks.{IsFaultOf, IsTextOf, HasRead, StandsAfter, ReaderStandsAt, lent_block}
use Rattle.block_reader.proofs.Going.{at_begun}

pub fault_begun : (gave : Pass) (fault : StreamFault) → IsFaultOf gave fault → IsBegun gave
fault_begun gave faults.Failed is = (is.bytes, inl is.given)
fault_begun gave faults.TooLong is = (is.bytes, inl is.given)
fault_begun gave (faults.Shape line) is = (is.0, inr (is.1.read))
fault_begun gave (faults.Rule rule) is = (is.0, inr (is.1.read))
fault_begun gave faults.Memory is = is

pub read_begun : (gave : Pass) (r : BlockReader) (head : Head) (blocks : List Block) → HasRead gave r head blocks → IsBegun gave
read_begun gave r head blocks read = at_begun gave r.blocks.lines.window read.stands.passed read.stands.behind.stands

pub text_begun : (gave : Pass) (head : Head) (blocks : List Block) → IsTextOf gave head blocks → IsBegun gave
text_begun gave head blocks text = (text.0, inr (text.1.read))

after_begun : (gave : Pass) (r : BlockReader) (fault : Option StreamFault) (over : Bool) → StandsAfter gave r fault over → IsBegun gave
after_begun gave r (Some fault) over stands = fault_begun gave fault stands
after_begun gave r None false stands = read_begun gave r stands.0 stands.1 stands.2
after_begun gave r None true stands = text_begun gave stands.0 stands.1 stands.2

pub reader_begun : (gave : Pass) (r : BlockReader) → ReaderStandsAt gave r → IsBegun gave
reader_begun gave r stands = after_begun gave r r.fault r.over stands

-- a reader that has no fault and is not over stands behind a head and some blocks
pub stands_behind : (gave : Pass) (r : BlockReader) → r.fault ≡ None → r.over ≡ false → ReaderStandsAt gave r →
    (head : Head) × (blocks : List Block) × HasRead gave r head blocks
stands_behind gave r sound more stands = subst₂ (StandsAfter gave r) sound more stands

-- and behind one block more, or at the end
pub stands_on : (gave given : Pass) (old new : BlockReader) (more : Bool) → old.fault ≡ None → old.over ≡ false → new.fault ≡ old.fault → new.over ≡ not more →
    (more ≡ true → (head : Head) → (blocks : List Block) → HasRead gave old head blocks → HasRead given new head (blocks ++ lent_block new ∷ [])) →
    (more ≡ false → (head : Head) → (blocks : List Block) → HasRead gave old head blocks → IsTextOf given head blocks) →
    ReaderStandsAt gave old → ReaderStandsAt given new
stands_on gave given old new true sound running same over handed whole stands =
    let read = stands_behind gave old sound running stands in
    subst₂ (StandsAfter given new) (sym (same ∙ sound)) (sym over) (read.0, read.1 ++ lent_block new ∷ [], handed refl read.0 read.1 read.2)
stands_on gave given old new false sound running same over handed whole stands =
    let read = stands_behind gave old sound running stands in
    subst₂ (StandsAfter given new) (sym (same ∙ sound)) (sym over) (read.0, read.1, whole refl read.0 read.1 read.2)
