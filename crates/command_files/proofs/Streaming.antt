-- What a file that is read one block at a time gives, wherever its blocks are put.
use Rattle.std.proofs.Common.{◌≡◌, ℕ, List, [], ◌∷◌, ◌++◌, ◌⊎◌, Option, Some, None, Result, Ok, Err, inl, inr, sym, ap, ◌∙◌, subst}
use Rattle.te_ports.specs.Ports.{Rose}
use Rattle.te_ports.specs.Record.{Read as FileRead, pass}
use Rattle.te_ports.specs.Shown.{Shown}
use Rattle.te_model.specs.declared.certificate.Block.{Block}
use Rattle.te_model.specs.declared.certificate.Certificate.{Certificate}
use Rattle.te_model.specs.declared.certificate.Head.{Head}
use Rattle.te_model.specs.Text.{Spells}
use Rattle.te_model.specs.Validity.{IsValidHead}
use Rattle.te_model.proofs.ValidParts.{valid_parts}
use Rattle.block_reader.specs.declared.block_reader.BlockReader.{BlockReader}
use Rattle.block_reader.specs.declared.stream_fault.StreamFault.{StreamFault}
use Rattle.block_reader.specs.declared.stream_fault.StreamFault.TheVariants as faults
use Rattle.block_reader.specs.Blocks.{HasRead, IsTextOf, IsFaultOf, name_of, lent_block, noted_fault}
use Rattle.command_frame.specs.Outcome.{KeepsDepot, ReadsFile}
use Rattle.command_frame.proofs.Following.{both}
use Rattle.command_files.specs.CertificateFile.{certificates}
use Rattle.command_files.specs.Blocks.{ReadsOn, IsHeadOf, HeadsFile}

-- so far no read failed, and the reader stands after this head and these blocks
pub record HasReadSoFar (file : List ℕ) (old new : Shown) (reader : BlockReader) (head : Head) (blocks : List Block) : Type 0 where
  pub read : HasRead (pass file old.gave new.gave) reader head blocks
  pub named : name_of reader ≡ file
  pub steady : new.faults ≡ old.faults
  pub may : KeepsDepot old new

-- the same after one block more
pub after_more : (file : List ℕ) (old mid new : Shown) (reader next : BlockReader) (head : Head) (blocks : List Block) →
    HasReadSoFar file old mid reader head blocks →
    ((before : List FileRead) (h : Head) (some : List Block) → HasRead (pass (name_of reader) before mid.gave) reader h some →
    HasRead (pass (name_of reader) before new.gave) next h (some ++ lent_block next ∷ [])) →
    name_of next ≡ name_of reader → new.faults ≡ mid.faults → KeepsDepot mid new →
    HasReadSoFar file old new next head (blocks ++ lent_block next ∷ [])
after_more file old mid new reader next head blocks s handed named steady may = record {
  read = subst (λ f. HasRead (pass f old.gave new.gave) next head (blocks ++ lent_block next ∷ [])) s.named
      (handed old.gave head blocks (subst (λ f. HasRead (pass f old.gave mid.gave) reader head blocks) (sym s.named) s.read));
  named = named ∙ s.named;
  steady = steady ∙ s.steady;
  may = both old mid new s.may may;
}

-- the file was read to its end
pub after_on : {A : Type 0} (x : A) (file : List ℕ) (old mid new : Shown) (reader : BlockReader) (head : Head) (blocks : List Block) →
    HasReadSoFar file old mid reader head blocks → new.faults ≡ mid.faults → KeepsDepot mid new → ReadsOn {A = A} file old new (Ok x)
after_on {A = A} x file old mid new reader head blocks s steady may = record {
  refused = λ fault is. absurd (cc);
  failed = λ is. absurd (cc);
  steady = λ other. steady ∙ s.steady;
  may = both old mid new s.may may;
}

-- and all that was read is the text of the head and the blocks
pub after_whole : (file : List ℕ) (old mid new : Shown) (reader : BlockReader) (head : Head) (blocks : List Block) →
    HasReadSoFar file old mid reader head blocks →
    ((before : List FileRead) (h : Head) (some : List Block) → HasRead (pass (name_of reader) before mid.gave) reader h some →
    IsTextOf (pass (name_of reader) before new.gave) h some) →
    IsTextOf (pass file old.gave new.gave) head blocks
after_whole file old mid new reader head blocks s whole =
    subst (λ f. IsTextOf (pass f old.gave new.gave) head blocks) s.named
    (whole old.gave head blocks (subst (λ f. HasRead (pass f old.gave mid.gave) reader head blocks) (sym s.named) s.read))

-- or reading of it stopped
none_or_failed : (o : Option StreamFault) → o ≡ None → o ≡ Some faults.Failed → ⊥
none_or_failed o none failed = cc

pub after_stops : {A B : Type 0} (file : List ℕ) (old mid new : Shown) (reader : BlockReader) (head : Head) (blocks : List Block) (fault : StreamFault) →
    HasReadSoFar file old mid reader head blocks →
    ((before : List FileRead) (h : Head) (some : List Block) → HasRead (pass (name_of reader) before mid.gave) reader h some →
    IsFaultOf (pass (name_of reader) before new.gave) fault) →
    (◌≡◌ {A = Result A StreamFault} (Err fault) (Err faults.Failed) → (noted_fault reader ≡ Some faults.Failed) ⊎ Rose (mid.faults (name_of reader)) (new.faults (name_of reader))) →
    ((◌≡◌ {A = Result A StreamFault} (Err fault) (Err faults.Failed) → ⊥) → new.faults ≡ mid.faults) → KeepsDepot mid new →
    ReadsOn {A = B} file old new (Err fault)
after_stops {A} {B} file old mid new reader head blocks fault s refused failed steady may = record {
  refused = λ other is.
      let same : fault ≡ other = cc in
      subst (IsFaultOf (pass file old.gave new.gave)) same
      (subst (λ f. IsFaultOf (pass f old.gave new.gave) fault) s.named
      (refused old.gave head blocks (subst (λ f. HasRead (pass f old.gave mid.gave) reader head blocks) (sym s.named) s.read)));
  failed = λ is. rose (failed cc);
  steady = λ other. steady (λ is. other cc) ∙ s.steady;
  may = both old mid new s.may may;
}
  where
    rose : (noted_fault reader ≡ Some faults.Failed) ⊎ Rose (mid.faults (name_of reader)) (new.faults (name_of reader)) → Rose (old.faults file) (new.faults file)
    rose (inl noted) = absurd (none_or_failed (noted_fault reader) s.read.no_fault noted)
    rose (inr up) = subst (λ (b : List ℕ → ℕ). Rose (b file) (new.faults file)) s.steady (subst (λ f. Rose (mid.faults f) (new.faults f)) s.named up)

-- what is answered is no failed read
ok_read : {A : Type 0} (x : A) → ◌≡◌ {A = Result A StreamFault} (Ok x) (Err faults.Failed) → ⊥
ok_read x e = cc

-- the file gives the certificate of the head and the blocks
pub text_file : {A : Type 0} (x : A) (file : List ℕ) (old new : Shown) (head : Head) (blocks : List Block) → ReadsOn {A = A} file old new (Ok x) →
    IsTextOf (pass file old.gave new.gave) head blocks → ReadsFile certificates file old new (Ok (record { head = head; blocks = blocks }))
text_file x file old new head blocks on text = record {
  reads = (text.0, text.1.read, text.1.within, text.2);
  begun = (text.0, inr text.1.read);
  part = tt;
  failed = tt;
  steady = λ other. on.steady (ok_read x);
  may = on.may;
}

-- of which the head is kept
pub head_file : (file : List ℕ) (old new : Shown) (head : Head) → ReadsOn {A = Head} file old new (Ok head) →
    IsHeadOf (pass file old.gave new.gave) head → HeadsFile file old new (Ok head)
head_file file old new head on whole = (whole.0, text_file head file old new head whole.0 on whole.1)

-- which is valid
pub spelled_head : (bytes : List ℕ) (c : Certificate) → Spells bytes c → IsValidHead c.head
spelled_head bytes c spells = ((valid_parts c).0 spells.0).head

pub read_head_valid : (file : List ℕ) (old new : Shown) (head : Head) → HeadsFile file old new (Ok head) → IsValidHead head
read_head_valid file old new head (blocks, read) = spelled_head read.reads.0 (record { head = head; blocks = blocks }) read.reads.3
