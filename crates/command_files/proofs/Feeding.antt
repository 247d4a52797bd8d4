-- How a file that is read one block at a time gives its certificate, or is refused.
use Rattle.std.proofs.Common.{◌≡◌, ℕ, ◌+◌, List, [], ◌∷◌, ◌++◌, codes, ◌≤◌, ◌⊎◌, Option, Some, None, Result, Ok, Err, inl, inr, refl, sym, ap, ◌∙◌, subst, arith, rules, tests}
use Rattle.std.specs.Bool.{IsTrue}
use Rattle.te_ports.specs.Ports.{Rose}
use Rattle.te_ports.specs.Record.{Read as FileRead, Pass, pass, IsBegun}
use Rattle.te_model.specs.declared.certificate.Block.{Block}
use Rattle.te_model.specs.declared.certificate.Head.{Head}
use Rattle.te_model.specs.Validity.{IsValidBlock, follows}
use Rattle.block_reader.specs.declared.block_reader.BlockReader.{BlockReader}
use Rattle.block_reader.specs.declared.stream_fault.StreamFault.{StreamFault}
use Rattle.block_reader.specs.declared.stream_fault.StreamFault.TheVariants as faults
use Rattle.block_reader.specs.Blocks.{HasRead, IsReaderOf, IsTextOf, IsFaultOf, name_of, lent_block, last_link, noted_fault}
use Rattle.block_reader.proofs.Begun.{fault_begun}
use Rattle.command_frame.specs.declared.answer.Fault.{Fault}
use Rattle.command_frame.specs.declared.answer.Fault.TheVariants.{Refused, Read, Memory}
use Rattle.command_files.specs.CertificateFile.{certificates}
use Rattle.command_files.specs.Refusals.{shape_reason, rule_reason}
use Rattle.te_ports.specs.Shown.{Shown}
use Rattle.command_frame.specs.Outcome.{KeepsDepot, ReadsFile}
use Rattle.command_files.specs.Blocks.{IsFedWhole, ReadsOn, IsAnswerTo, FeedsFile}
use Rattle.command_files.proofs.Streaming.{HasReadSoFar, after_more, after_on, after_whole, after_stops, text_file}

-- the least link that may follow this one
abbrev pub link_after : Option ℕ → ℕ
link_after None = 0
link_after (Some link) = link + 1

follows_after : (before : Option ℕ) (link : ℕ) → IsTrue (follows before link) → link_after before ≤ link
follows_after None link is = omega arith
follows_after (Some before) link is = search (rules, tests)

module _ {F : Type 0} (stands_for : F → Head → List Block → Type 0) (given_head : F → Head) (least_link : F → ℕ) where
  -- so far no read failed, and the feed was given what was read
  pub record StandsFed (file : List ℕ) (old new : Shown) (reader : BlockReader) (feed : F) : Type 0 where
    pub head : Head
    pub blocks : List Block
    pub read : HasReadSoFar file old new reader head blocks
    pub fed : stands_for feed head blocks
    pub same : given_head feed ≡ head
    pub next : least_link feed ≡ link_after (last_link reader)

  -- the block that was read is valid
  pub fed_valid : (file : List ℕ) (old mid : Shown) (reader next : BlockReader) (feed : F) (block : Block) → StandsFed file old mid reader feed →
      ((head : Head) → IsReaderOf reader head → IsValidBlock head (lent_block next)) → block ≡ lent_block next → IsValidBlock (given_head feed) block
  fed_valid file old mid reader next feed block s valid same =
      subst (λ h. IsValidBlock h block) (sym s.same)
      (subst (λ b. IsValidBlock s.head b) (sym same) (valid s.head s.read.read.stands.of_head))

  -- and above those before it
  pub may_follow : (reader next : BlockReader) (feed : F) (block : Block) → least_link feed ≡ link_after (last_link reader) → block ≡ lent_block next →
      IsTrue (follows (last_link reader) (lent_block next).link) → least_link feed ≤ block.link
  may_follow reader next feed block at same above =
      rw (at, same) (follows_after (last_link reader) (lent_block next).link above)

  -- the same after one block more
  pub fed_more : (file : List ℕ) (old mid new : Shown) (reader next : BlockReader) (feed more : F) (block : Block) →
      StandsFed file old mid reader feed →
      ((before : List FileRead) (head : Head) (blocks : List Block) → HasRead (pass (name_of reader) before mid.gave) reader head blocks →
      HasRead (pass (name_of reader) before new.gave) next head (blocks ++ lent_block next ∷ [])) →
      ((head : Head) (blocks : List Block) → stands_for feed head blocks → stands_for more head (blocks ++ block ∷ [])) →
      block ≡ lent_block next → last_link next ≡ Some (lent_block next).link → (given_head more ≡ given_head feed) × (least_link more ≡ block.link + 1) →
      name_of next ≡ name_of reader → new.faults ≡ mid.faults → KeepsDepot mid new → StandsFed file old new next more
  fed_more file old mid new reader next feed more block s handed given same last rest named steady may = record {
    head = s.head;
    blocks = s.blocks ++ lent_block next ∷ [];
    read = after_more file old mid new reader next s.head s.blocks s.read handed named steady may;
    fed = subst (λ b. stands_for more s.head (s.blocks ++ b ∷ [])) same (given s.head s.blocks s.fed);
    same = rest.0 ∙ s.same;
    next = rest.1 ∙ ap (λ b. b.link + 1) same ∙ sym (ap link_after last);
  }

  -- the file was read to its end
  pub fed_on : (file : List ℕ) (old mid new : Shown) (reader : BlockReader) (feed : F) → StandsFed file old mid reader feed →
      new.faults ≡ mid.faults → KeepsDepot mid new → ReadsOn {A = F} file old new (Ok feed)
  fed_on file old mid new reader feed s steady may = after_on feed file old mid new reader s.head s.blocks s.read steady may

  -- or reading of it stopped
  pub fed_stops : (A B : Type 0) (file : List ℕ) (old mid new : Shown) (reader : BlockReader) (feed : F) (fault : StreamFault) →
      StandsFed file old mid reader feed →
      ((before : List FileRead) (head : Head) (blocks : List Block) → HasRead (pass (name_of reader) before mid.gave) reader head blocks →
      IsFaultOf (pass (name_of reader) before new.gave) fault) →
      (◌≡◌ {A = Result A StreamFault} (Err fault) (Err faults.Failed) → (noted_fault reader ≡ Some faults.Failed) ⊎ Rose (mid.faults (name_of reader)) (new.faults (name_of reader))) →
      ((◌≡◌ {A = Result A StreamFault} (Err fault) (Err faults.Failed) → ⊥) → new.faults ≡ mid.faults) → KeepsDepot mid new →
      ReadsOn {A = B} file old new (Err fault)
  fed_stops A B file old mid new reader feed fault s refused failed steady may =
      after_stops {A = A} {B = B} file old mid new reader s.head s.blocks fault s.read refused failed steady may

  -- at the end of the file the feed was given a certificate
  pub fed_whole : (file : List ℕ) (old mid new : Shown) (reader : BlockReader) (feed : F) → StandsFed file old mid reader feed →
      ((before : List FileRead) (head : Head) (blocks : List Block) → HasRead (pass (name_of reader) before mid.gave) reader head blocks →
      IsTextOf (pass (name_of reader) before new.gave) head blocks) →
      IsFedWhole stands_for (pass file old.gave new.gave) feed
  fed_whole file old mid new reader feed s whole = (s.head, s.blocks, s.fed, after_whole file old mid new reader s.head s.blocks s.read whole)

  -- which is what the file gives
  pub fed_file : (file : List ℕ) (old new : Shown) (feed : F) → ReadsOn {A = F} file old new (Ok feed) →
      IsFedWhole stands_for (pass file old.gave new.gave) feed → FeedsFile stands_for file old new (Ok feed)
  fed_file file old new feed on whole = (whole.0, whole.1, whole.2, text_file feed file old new whole.0 whole.1 on whole.3)

-- memory was short for the line
short : {A : Type 0} (file : List ℕ) (old new : Shown) (fault : StreamFault) → ReadsOn {A = A} file old new (Err fault) →
    (◌≡◌ {A = Result A StreamFault} (Err fault) (Err faults.Failed) → ⊥) → ReadsFile certificates file old new (Err Memory)
short file old new fault on other =
    let begun = fault_begun (pass file old.gave new.gave) fault (on.refused fault refl) in
    record { reads = tt; begun = begun; part = tt; failed = tt; steady = λ unread. on.steady other; may = on.may }

-- the file is refused for the fault, which the line says, or it is not read
pub refuses : {A : Type 0} (file : List ℕ) (old new : Shown) (fault : StreamFault) (answer : Fault) → ReadsOn {A = A} file old new (Err fault) →
    IsAnswerTo file fault answer → ReadsFile certificates file old new (Err answer)
refuses file old new faults.Failed answer on is =
    let at = on.refused faults.Failed refl in
    subst (λ a. ReadsFile certificates file old new (Err a)) (sym is)
    (record { reads = tt; begun = (at.bytes, inl at.given); part = at; failed = on.failed refl; steady = λ other. absurd (other refl); may = on.may })
refuses file old new faults.Memory answer on is = subst (λ a. ReadsFile certificates file old new (Err a)) (sym is)
    (record { reads = tt; begun = on.refused faults.Memory refl; part = tt; failed = tt; steady = λ other. on.steady (λ e. cc); may = on.may })
refuses file old new faults.TooLong (Refused line) on is =
    let at = on.refused faults.TooLong refl in
    record { reads = inl (at, is); begun = (at.bytes, inl at.given); part = tt; failed = tt; steady = λ other. on.steady (λ e. cc); may = on.may }
refuses file old new faults.TooLong Read on is = absurd is
refuses file old new faults.TooLong Memory on is = short file old new faults.TooLong on (λ e. cc)
refuses file old new (faults.Shape k) (Refused line) on is =
    let at = on.refused (faults.Shape k) refl in
    record {
      reads = inr (at.0, shape_reason k, at.1.read, at.1.within, inl (k, at.2, refl), is);
      begun = (at.0, inr at.1.read);
      part = tt;
      failed = tt;
      steady = λ other. on.steady (λ e. cc);
      may = on.may;
    }
refuses file old new (faults.Shape k) Read on is = absurd is
refuses file old new (faults.Shape k) Memory on is = short file old new (faults.Shape k) on (λ e. cc)
refuses file old new (faults.Rule rule) (Refused line) on is =
    let at = on.refused (faults.Rule rule) refl in
    record {
      reads = inr (at.0, rule_reason (codes "V") rule, at.1.read, at.1.within, inr (rule, at.2, refl), is);
      begun = (at.0, inr at.1.read);
      part = tt;
      failed = tt;
      steady = λ other. on.steady (λ e. cc);
      may = on.may;
    }
refuses file old new (faults.Rule rule) Read on is = absurd is
refuses file old new (faults.Rule rule) Memory on is = short file old new (faults.Rule rule) on (λ e. cc)
