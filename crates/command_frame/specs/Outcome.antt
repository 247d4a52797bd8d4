-- What the functions of the program answer of the files that they read.
use Rattle.std.specs.Prelude.{◌≡◌, ◌≢◌, ◌≤◌, ◌⊎◌, ℕ, List, string_bytes, IsSomeAnd, Option, Some, None, Result, Ok, Err}
use Rattle.std.specs.Io.KnownBytes.{append_known}
use Rattle.te_ports.specs.Ports.{Rose, AppendsPart}
use Rattle.te_ports.specs.Record.{Adds, Pass, pass, IsBegun, IsReadInPart}
use Rattle.te_ports.specs.Shown.{Shown}
use Rattle.command_frame.specs.declared.answer.Answer.{Answer}
use Rattle.command_frame.specs.declared.answer.Answer.TheVariants.{Done, No, NoPath}
use Rattle.command_frame.specs.declared.answer.Fault.{Fault}
use Rattle.command_frame.specs.declared.answer.Fault.TheVariants.{Refused, Read, Memory}
use Rattle.command_frame.specs.declared.kind.BytesFault.{BytesFault}
use Rattle.command_frame.specs.declared.kind.BytesFault.TheVariants as bytes_fault
use Rattle.command_frame.specs.Files.{Passes, span, given_passes, given_files}
use Rattle.command_frame.specs.Reading.{Kind, Reading, refused_line, GivesIn, RefusedIn, Means, ReadFailed}
use Rattle.command_frame.specs.Order.{ReadsAlong}
use Rattle.command_frame.specs.Table.{TableOf, reading_in}
use Rattle.command_frame.specs.Run.{Change, Says, message}

-- what a call may do to a depot
pub record KeepsDepot (old new : Shown) : Type 0 where
  pub added : Adds old.content old.gave new.gave
  pub later : (file : List ℕ) → old.faults file ≤ new.faults file
  pub content : new.content ≡ old.content

-- the status of an answer, and its text
abbrev pub status_of : Answer → ℕ
status_of (Done text) = 0
status_of (No line) = 1
status_of (NoPath line) = 7

abbrev pub answer_text : Answer → List ℕ
answer_text (Done text) = text.items
answer_text (No line) = line.items
answer_text (NoPath line) = line.items

-- the status of a fault, and its text
abbrev pub status_of_fault : Fault → ℕ
status_of_fault (Refused line) = 3
status_of_fault Read = 4
status_of_fault Memory = 6

abbrev pub fault_text : Fault → List ℕ
fault_text (Refused line) = string_bytes line
fault_text Read = message 4
fault_text Memory = message 6

-- the contract of a call that writes a text where one of this status belongs
pub record Delivers (result meant : ℕ) (text : List ℕ) (out err : Change) : Type 0 where
  pub status : (result ≡ meant) ⊎ ((result ≡ 5) × (meant ≤ 1))
  pub form : (result ≤ 1) ⊎ (result ≡ 5) ⊎ (result ≡ 7)
  pub whole : result ≤ 1 → out.new ≡ append_known out.old text
  pub part : result ≡ 5 → AppendsPart out.old out.new text
  pub write : result ≡ 5 → Rose out.before out.now
  pub named : result ≡ 7 → Says err text
  pub silent : 2 ≤ result → result ≢ 5 → out.new ≡ out.old
  pub said : result ≡ 5 → Says err (message 5)
  pub quiet : result ≤ 1 → err.new ≡ err.old
  pub out_faults : result ≢ 5 → out.now ≡ out.before
  pub err_faults : result ≤ 1 → err.now ≡ err.before
  pub out_later : out.before ≤ out.now
  pub err_later : err.before ≤ err.now

-- a fact of the line that refuses a file, where one does
abbrev pub OnRefused : Fault → (List ℕ → Type 0) → Type 0
OnRefused (Refused line) P = P (string_bytes line)
OnRefused Read P = Unit {0}
OnRefused Memory P = Unit {0}

-- a fact of a failed read, where one failed
abbrev pub OnRead : {A : Type 0} → Result A Fault → Type 0 → Type 0
OnRead (Ok value) P = Unit {0}
OnRead (Err (Refused line)) P = Unit {0}
OnRead (Err Read) P = P
OnRead (Err Memory) P = Unit {0}

-- the bytes give the value, or are refused in the words that the refusal shows
abbrev pub ReadsBytes : {A R : Type 0} → (R → Option (List ℕ)) → Kind A → List ℕ → Result A (BytesFault R) → Type 0
ReadsBytes shown kind bytes (Ok value) = kind.gives bytes (Ok value)
ReadsBytes shown kind bytes (Err (bytes_fault.Refused refusal)) = IsSomeAnd (shown refusal) (λ words. kind.gives bytes (Err words))
ReadsBytes shown kind bytes (Err bytes_fault.Memory) = Unit {0}

-- the line refuses the file in these words, where there is memory for it
abbrev pub IsRefusal : List ℕ → List ℕ → Fault → Type 0
IsRefusal file words (Refused line) = string_bytes line ≡ refused_line file words
IsRefusal file words Read = ⊥
IsRefusal file words Memory = Unit {0}

-- the bytes of the file give the value, or are refused, which the line says
abbrev pub ReadsBytesOf : {A : Type 0} → Kind A → List ℕ → List ℕ → Result A Fault → Type 0
ReadsBytesOf kind file bytes (Ok value) = kind.gives bytes (Ok value)
ReadsBytesOf kind file bytes (Err (Refused line)) =
    (words : List ℕ) × kind.gives bytes (Err words) × (string_bytes line ≡ refused_line file words)
ReadsBytesOf kind file bytes (Err Read) = ⊥
ReadsBytesOf kind file bytes (Err Memory) = Unit {0}

-- the file of the pass gives the value, or is refused, which the line says
abbrev pub ReadsValueOrRefusal : {A : Type 0} → Kind A → Passes → Pass → Result A Fault → Type 0
ReadsValueOrRefusal kind passes p (Ok value) = GivesIn kind passes p value
ReadsValueOrRefusal kind passes p (Err fault) = OnRefused fault (RefusedIn kind passes p)

-- the contract of a reader of a file: its reads are a pass over the file, which was begun
pub record ReadsFile {A : Type 0} (kind : Kind A) (file : List ℕ) (old new : Shown) (result : Result A Fault) : Type 0 where
  pub reads : ReadsValueOrRefusal kind (given_passes new.gave) (pass file old.gave new.gave) result
  pub begun : IsBegun (pass file old.gave new.gave)
  pub part : OnRead result (IsReadInPart (pass file old.gave new.gave) kind.limit)
  pub failed : OnRead result (Rose (old.faults file) (new.faults file))
  pub steady : result ≢ Err Read → new.faults ≡ old.faults
  pub may : KeepsDepot old new

-- the status and the text are what is meant, unless a read failed or memory was short
abbrev pub Meant : (ℕ → List ℕ → Type 0) → Result Answer Fault → Type 0
Meant Answer (Ok answer) = Answer (status_of answer) (answer_text answer)
Meant Answer (Err fault) = OnRefused fault (Answer 3)

-- the contract of a command: whatever it answers, it read its files in their order
pub record Follows (reading : Reading) (old new : Shown) (result : Result Answer Fault) : Type 0 where
  pub means : Meant (Means reading (given_files (span old.gave new.gave))) result
  pub failed : OnRead result (ReadFailed reading (given_files (span old.gave new.gave)) (λ file. Rose (old.faults file) (new.faults file)))
  pub order : ReadsAlong reading old.gave new.gave
  pub steady : result ≢ Err Read → new.faults ≡ old.faults
  pub may : KeepsDepot old new

-- the answer of the command of the words, or these are no form of one and nothing is read
abbrev pub AnswersWords : {Command : Type 0} → TableOf Command → List (List ℕ) → Shown → Shown → Option (Result Answer Fault) → Type 0
AnswersWords {Command} table words old new None = (table.command_of words ≡ None) × (new ≡ old)
AnswersWords {Command} table words old new (Some result) =
    (command : Command) × (table.command_of words ≡ Some command) × Follows (reading_in table command) old new result
