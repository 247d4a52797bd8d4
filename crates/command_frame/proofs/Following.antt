-- How the answer of a command comes from the reading of one file and the rest.
use Rattle.std.proofs.Common.{◌≡◌, ◌≤◌, ℕ, List, [], ◌∷◌, codes, string_bytes, length, Option, Some, None, Result, Ok, Err, inl, inr, refl, sym, ◌∙◌, subst, arith}
use Rattle.std.specs.Fmt.{◌++?◌}
use Rattle.std.specs.declared.string.String.{String}
use Rattle.std.specs.declared.alloc.Global.{Global}
use Rattle.std.specs.Prelude.{IfOk, IfErr, IfSome, IsSomeAnd}
use Rattle.te_ports.specs.Ports.{Rose}
use Rattle.te_ports.specs.Record.{Read as FileRead, pass, nothing, IsRead}
use Rattle.te_ports.proofs.Giving.{adds_none, adds_then}
use Rattle.command_frame.specs.declared.answer.Answer.{Answer}
use Rattle.command_frame.specs.declared.answer.Fault.{Fault}
use Rattle.command_frame.specs.declared.answer.Fault.TheVariants.{Refused, Read, Memory}
use Rattle.command_frame.specs.declared.kind.BytesFault.TheVariants as bytes_fault
use Rattle.command_frame.specs.Files.{Passes, given_passes}
use Rattle.command_frame.specs.Reading.{Kind, Answers, Reading, answers, reads, GivesIn, MeansAfter, ReadFailedAfter}
use Rattle.command_frame.specs.Order.{ReadsAlong}
use Rattle.te_ports.specs.Shown.{Shown}
use Rattle.command_frame.specs.Outcome.{KeepsDepot, ReadsBytes, IsRefusal, ReadsBytesOf, ReadsFile, Meant, OnRead, Follows, status_of, answer_text}

-- a file gives a value, and what follows is meant, or failed, after it
pub meant_on : (A : Type 0) (kind : Kind A) (file : List ℕ) (next : A → Reading) (value : A) (passes : Passes) (before now : List FileRead)
    (result : Result Answer Fault) → GivesIn kind passes (pass file before now) value → Meant (MeansAfter (next value) passes now) result →
    Meant (MeansAfter (reads A kind file next) passes before) result
meant_on A kind file next value passes before now (Ok answer) gives means = inr (value, now, gives, means)
meant_on A kind file next value passes before now (Err (Refused line)) gives means = inr (value, now, gives, means)
meant_on A kind file next value passes before now (Err Read) gives means = tt
meant_on A kind file next value passes before now (Err Memory) gives means = tt

pub failed_on : (A : Type 0) (kind : Kind A) (file : List ℕ) (next : A → Reading) (value : A) (passes : Passes) (before now : List FileRead)
    (Fails : List ℕ → Type 0) (result : Result Answer Fault) → GivesIn kind passes (pass file before now) value →
    OnRead result (ReadFailedAfter (next value) passes now Fails) → OnRead result (ReadFailedAfter (reads A kind file next) passes before Fails)
failed_on A kind file next value passes before now Fails (Ok answer) gives failed = tt
failed_on A kind file next value passes before now Fails (Err (Refused line)) gives failed = tt
failed_on A kind file next value passes before now Fails (Err Read) gives failed = inr (value, now, gives, failed)
failed_on A kind file next value passes before now Fails (Err Memory) gives failed = tt

-- a command of which nothing was read
pub none_read : (r : Reading) (before : List FileRead) → ReadsAlong r before before
none_read (answers a) before = refl
none_read (reads A kind file next) before = inl ([], inl (nothing before [] refl refl))

-- a call after which nothing changed, and one call after another
pub no_change : (s : Shown) → KeepsDepot s s
no_change s = record { added = adds_none s.content s.gave s.gave refl; later = λ file. omega arith; content = refl }

pub both : (old mid new : Shown) → KeepsDepot old mid → KeepsDepot mid new → KeepsDepot old new
both old mid new a b = record {
  added = adds_then old.content mid.content old.gave mid.gave new.gave a.content a.added b.added;
  later = λ file. let x = a.later file in let y = b.later file in omega arith;
  content = b.content ∙ a.content;
}

-- what failed of the rest failed of the call
pub failed_since : (r : Reading) (passes : Passes) (before : List FileRead) (old mid new : List ℕ → ℕ) (result : Result Answer Fault) → mid ≡ old →
    OnRead result (ReadFailedAfter r passes before (λ f. Rose (mid f) (new f))) → OnRead result (ReadFailedAfter r passes before (λ f. Rose (old f) (new f)))
failed_since r passes before old mid new result same failed =
    subst (λ (b : List ℕ → ℕ). OnRead result (ReadFailedAfter r passes before (λ f. Rose (b f) (new f)))) same failed

-- what the bytes of a file give that was read in the call
pub loaded : (A : Type 0) (kind : Kind A) (file bytes : List ℕ) (old new : Shown) (result : Result A Fault) → IsRead (pass file old.gave new.gave) bytes →
    length bytes ≤ kind.limit bytes → ReadsBytesOf kind file bytes result → new.faults ≡ old.faults → KeepsDepot old new → ReadsFile kind file old new result
loaded A kind file bytes old new (Ok value) read few gives steady may =
    record { reads = (bytes, read, few, gives); begun = (bytes, inr read); part = tt; failed = tt; steady = λ other. steady; may = may }
loaded A kind file bytes old new (Err (Refused line)) read few (words, refused, says) steady may =
    record { reads = inr (bytes, words, read, few, refused, says); begun = (bytes, inr read); part = tt; failed = tt; steady = λ other. steady; may = may }
loaded A kind file bytes old new (Err Read) read few none steady may = absurd none
loaded A kind file bytes old new (Err Memory) read few gives steady may =
    record { reads = tt; begun = (bytes, inr read); part = tt; failed = tt; steady = λ other. steady; may = may }

-- the file gives a value, and the rest of the command follows
pub goes_on : (A : Type 0) (kind : Kind A) (file : List ℕ) (next : A → Reading) (value : A) (old mid new : Shown) (result : Result Answer Fault) →
    ReadsFile kind file old mid (Ok value) → Follows (next value) mid new result → Follows (reads A kind file next) old new result
goes_on A kind file next value old mid new result read rest =
    let same = read.steady (λ e. cc) in
    let Fails : List ℕ → Type 0 = λ f. Rose (old.faults f) (new.faults f) in
    record {
      means = meant_on A kind file next value (given_passes new.gave) old.gave mid.gave result read.reads rest.means;
      failed = failed_on A kind file next value (given_passes new.gave) old.gave mid.gave Fails result read.reads
          (failed_since (next value) (given_passes new.gave) mid.gave old.faults mid.faults new.faults result same rest.failed);
      order = inr (value, mid.gave, read.reads, rest.order);
      steady = λ other. rest.steady other ∙ same;
      may = both old mid new read.may rest.may;
    }

-- the file is refused, or a read of it failed, or memory was short
pub stops : (A : Type 0) (kind : Kind A) (file : List ℕ) (next : A → Reading) (old new : Shown) (fault : Fault) →
    ReadsFile kind file old new (Err fault) → Follows (reads A kind file next) old new (Err fault)
stops A kind file next old new (Refused line) read =
    record { means = inl (refl, new.gave, read.reads, refl); failed = tt; order = inl read.begun; steady = λ other. read.steady (λ e. cc); may = read.may }
stops A kind file next old new Read read = record {
  means = tt;
  failed = inl (read.failed, new.gave, read.part, refl);
  order = inl read.begun;
  steady = λ other. absurd (other refl);
  may = read.may;
}
stops A kind file next old new Memory read =
    record { means = tt; failed = tt; order = inl read.begun; steady = λ other. read.steady (λ e. cc); may = read.may }

-- all files were read, and this is the answer, or memory was short for it
pub ends : (a : Answers) (s : Shown) (answer : Answer) → a.text (status_of answer) (answer_text answer) → Follows (answers a) s s (Ok answer)
ends a s answer is = record { means = (is, refl); failed = tt; order = refl; steady = λ other. refl; may = no_change s }

pub falls_short : (r : Reading) (s : Shown) → Follows r s s (Err Memory)
falls_short r s = record { means = tt; failed = tt; order = none_read r s.gave; steady = λ other. refl; may = no_change s }

-- one of the two
pub ends_or_falls_short : (a : Answers) (s : Shown) (result : Result Answer Fault) → IfOk result (λ answer. a.text (status_of answer) (answer_text answer)) →
    IfErr result (λ fault. fault ≡ Memory) → Follows (answers a) s s result
ends_or_falls_short a s (Ok answer) is short = ends a s answer is
ends_or_falls_short a s (Err fault) is short = subst (λ f. Follows (answers a) s s (Err f)) (sym short) (falls_short (answers a) s)

-- the bytes of a file are refused in the words that the refusal shows, and the line says so
pub refused_bytes : {A R : Type 0} (shown : R → Option (List ℕ)) (kind : Kind A) (file bytes : List ℕ) (refusal : R) (fault : Fault) →
    ReadsBytes {A = A} shown kind bytes (Err (bytes_fault.Refused refusal)) → IfSome (shown refusal) (λ words. IsRefusal file words fault) →
    ReadsBytesOf kind file bytes (Err fault)
refused_bytes {A = A} shown kind file bytes refusal fault refused says = go (shown refusal) fault refused says
  where
    go : (o : Option (List ℕ)) (f : Fault) → IsSomeAnd o (λ words. kind.gives bytes (Err words)) → IfSome o (λ words. IsRefusal file words f) →
        ReadsBytesOf kind file bytes (Err f)
    go None f none says = absurd none
    go (Some words) (Refused line) gives is = (words, gives, is)
    go (Some words) Read gives none = absurd none
    go (Some words) Memory gives is = tt

-- the line is that of the words that the refusal shows, or memory is short for it
pub refusal_shown : (shown : Option (List ℕ)) (file : List ℕ) (line : String Global) →
    IfSome (Some (codes "refused: ") ++? Some file ++? Some (codes ": ") ++? shown ++? Some (10 ∷ [])) (λ bytes. string_bytes line ≡ bytes) →
    IfSome shown (λ words. IsRefusal file words (Refused line))
refusal_shown None file line is = tt
refusal_shown (Some words) file line is = is

pub memory_shown : (shown : Option (List ℕ)) (file : List ℕ) → IfSome shown (λ words. IsRefusal file words Memory)
memory_shown None file = tt
memory_shown (Some words) file = tt
