-- What the program does with the words of the command line: what it writes, and what a call may change.
use Rattle.std.specs.Prelude.{◌≡◌, ◌≢◌, ◌≤◌, ◌⊎◌, ◌==◌, if◌then◌else◌, ℕ, List, [], ◌∷◌, ◌++◌, map, codes, string_bytes, Vec, Option, None}
use Rattle.std.specs.declared.string.String.{String}
use Rattle.std.specs.declared.alloc.Global.{Global}
use Rattle.std.specs.Io.KnownBytes.{append_known}
use Rattle.te_ports.specs.Ports.{Rose, AppendsPart}
use Rattle.command_frame.specs.Files.{Files, Span}
use Rattle.command_frame.specs.Reading.{Reading, Means, Proves}
use Rattle.command_frame.specs.Order.{ReadsAlong}
use Rattle.command_frame.specs.Table.{TableOf, OfWords, reading_in}

-- the words as bytes
abbrev pub texts : Vec (String Global) Global → List (List ℕ)
texts words = map string_bytes words.items

-- the message of a status that no file gives: faulty words, failed reads and writes, want of memory
abbrev pub message : ℕ → List ℕ
message status =
    if status == 2 then codes "usage" ++ 10 ∷ []
    else if status == 4 then codes "fault: read" ++ 10 ∷ []
    else if status == 5 then codes "fault: write" ++ 10 ∷ []
    else codes "fault: memory" ++ 10 ∷ []

-- what a sink holds and how many of its writes failed, before a call and after it
pub record Change : Type 0 where
  pub old : Option (List ℕ)
  pub new : Option (List ℕ)
  pub before : ℕ
  pub now : ℕ

abbrev pub change : {S : Type 0} → (S → Option (List ℕ)) → (S → ℕ) → S → S → Change
change written faults old new = record { old = written old; new = written new; before = faults old; now = faults new }

-- some text with this meaning was appended whole
abbrev pub Writes : (List ℕ → Type 0) → Change → Type 0
Writes P out = (text : List ℕ) × P text × (out.new ≡ append_known out.old text)

-- a part of some text with this meaning was appended, from its front and not all of it
abbrev pub WritesPart : (List ℕ → Type 0) → Change → Type 0
WritesPart P out = (text : List ℕ) × P text × AppendsPart out.old out.new text

-- the whole text was appended and no write failed, or where faults rose a part of it
abbrev pub Says : Change → List ℕ → Type 0
Says err text =
    ((err.new ≡ append_known err.old text) × (err.now ≡ err.before)) ⊎ (AppendsPart err.old err.new text × Rose err.before err.now)

-- some text with this meaning was said
abbrev pub SaysSome : (List ℕ → Type 0) → Change → Type 0
SaysSome P err = (text : List ℕ) × P text × Says err text

-- 0, 1, 3 and 7 only where that is what the files mean: the text was written whole, and the message was said. What was
-- written at 0 is proved, and at 5 it was a part of what was to be written.
pub record Answered (reading : Reading) (files : Files) (result : ℕ) (out err : Change) : Type 0 where
  pub yes : result ≡ 0 → Writes (Means reading files 0) out
  pub no : result ≡ 1 → Writes (Means reading files 1) out
  pub refused : result ≡ 3 → SaysSome (Means reading files 3) err
  pub no_path : result ≡ 7 → SaysSome (Means reading files 7) err
  pub proves : result ≡ 0 → Writes (Proves reading files) out
  pub part : result ≡ 5 → WritesPart (λ text. Means reading files 0 text ⊎ Means reading files 1 text) out

-- by these files some text was written, or said, that the command of the words means at this status
abbrev pub WritesMeant : {Command : Type 0} → TableOf Command → List (List ℕ) → Files → ℕ → Change → Type 0
WritesMeant table words files status out = OfWords table words (λ command. Writes (Means (reading_in table command) files status) out)

abbrev pub SaysMeant : {Command : Type 0} → TableOf Command → List (List ℕ) → Files → ℕ → Change → Type 0
SaysMeant table words files status err = OfWords table words (λ command. SaysSome (Means (reading_in table command) files status) err)

-- a text was written that proves what the command of the words is for
abbrev pub WritesProof : {Command : Type 0} → TableOf Command → List (List ℕ) → Files → Change → Type 0
WritesProof table words files out = OfWords table words (λ command. Writes (Proves (reading_in table command) files) out)

-- a part of a text was written that the command of the words means at status 0 or 1
abbrev pub WritesPartMeant : {Command : Type 0} → TableOf Command → List (List ℕ) → Files → Change → Type 0
WritesPartMeant table words files out =
    OfWords table words (λ command. WritesPart (λ text. Means (reading_in table command) files 0 text ⊎ Means (reading_in table command) files 1 text) out)

-- the reads of a call are those of the command of the words, in their order, and there are none where the words are no form of one
pub record ReadsInOrder {Command : Type 0} (table : TableOf Command) (words : List (List ℕ)) (made : Span) : Type 0 where
  pub unread : table.command_of words ≡ None → made.now ≡ made.before
  pub along : OfWords table words (λ command. ReadsAlong (reading_in table command) made.before made.now)

-- what may be answered is so
pub record HasForm (MayAnswer : ℕ → List ℕ → Type 0) (result : ℕ) (out err : Change) : Type 0 where
  pub written : result ≤ 1 → Writes (MayAnswer result) out
  pub named : result ≡ 7 → SaysSome (MayAnswer 7) err

-- the status is this one, or that of a failed read, a failed write or the want of memory
abbrev pub IsOrFails : ℕ → ℕ → Type 0
IsOrFails result status = (result ≡ status) ⊎ (result ≡ 4) ⊎ (result ≡ 5) ⊎ (result ≡ 6)

-- the status is this one, and where its text belongs on the standard output, some text with this meaning stands there, or
-- memory was short
abbrev pub GivesOrMemory : ℕ → Change → ℕ → (List ℕ → Type 0) → Type 0
GivesOrMemory result out status P = ((result ≡ status) × (status ≤ 1 → Writes P out)) ⊎ (result ≡ 6)

-- nothing else is written to out, nothing to err at 0 and 1, where no write to it fails, and each other status has its message
pub record Written (result : ℕ) (out err : Change) : Type 0 where
  pub known : result ≤ 7
  pub silent : 2 ≤ result → result ≢ 5 → out.new ≡ out.old
  pub said : 2 ≤ result → result ≢ 3 → result ≢ 7 → Says err (message result)
  pub quiet : result ≤ 1 → err.new ≡ err.old
  pub err_faults : result ≤ 1 → err.now ≡ err.before

-- no count of faults rises without its status
pub record Steady (result : ℕ) (before now : List ℕ → ℕ) (out : Change) : Type 0 where
  pub depot : result ≢ 4 → now ≡ before
  pub out_faults : result ≢ 5 → out.now ≡ out.before

-- and none falls
pub record Later (before now : List ℕ → ℕ) (out err : Change) : Type 0 where
  pub depot : (file : List ℕ) → before file ≤ now file
  pub out_faults : out.before ≤ out.now
  pub err_faults : err.before ≤ err.now
