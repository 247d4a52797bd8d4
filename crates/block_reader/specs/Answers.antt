-- Reading of a part of a file over the lines that stand ready, as a step of reading its whole content.
use Rattle.std.specs.Prelude.{◌≡◌, ◌≢◌, ◌⊎◌, ℕ, ◌≤◌, List, [], ◌++◌, length, drop, Result, Ok, Err}
use Rattle.te_model.specs.FileLimit.{file_limit}
use Rattle.te_ports.specs.Record.{Pass, HasGiven, IsBegun, IsRead, IsReadInPart, IsReadPastAllowed}
use Rattle.cert_text.specs.Place.{Place, place}
use Rattle.cert_text.specs.Grammar.{read_closing}
use Rattle.cert_text.specs.declared.fault.Stop.{Stop}
use Rattle.cert_text.specs.declared.fault.Stop.TheVariants as stops
use Rattle.block_reader.specs.declared.lines.Lines.{Lines}
use Rattle.block_reader.specs.declared.window.Window.{Window}
use Rattle.block_reader.specs.declared.window.State.TheVariants.{Open, Ended, Failed, TooLong}
use Rattle.block_reader.specs.declared.stream_fault.StreamFault.{StreamFault}
use Rattle.block_reader.specs.declared.stream_fault.StreamFault.TheVariants as faults
use Rattle.block_reader.specs.Standing.{ready, fetched_of, state_of, limit_of, StandsAt, StandsIn}

-- the place of the bytes that stand ready
abbrev pub place_of : Lines → Place
place_of lines = place lines.line (ready lines.window)

-- the place behind the passed bytes of a content
abbrev pub place_in : Lines → List ℕ → List ℕ → Place
place_in lines passed content = place lines.line (drop (length passed) content)

-- the window's limit is that of a file that begins with what reads gave, and goes on being it
pub record HasLimit (w : Window) (passed : List ℕ) : Type 0 where
  pub limit : limit_of w ≡ file_limit (passed ++ ready w)
  pub settled : state_of w ≡ Open → 14 ≤ length (passed ++ ready w)

-- reads gave the bytes that were passed and those that stand ready
pub record IsBehind (gave : Pass) (lines : Lines) (passed : List ℕ) : Type 0 where
  pub stands : StandsAt gave lines.window passed
  pub limited : HasLimit lines.window passed

-- a read of the first bytes failed, or memory for the window was short and nothing was read
abbrev pub IsOpeningFault : Pass → StreamFault → Type 0
IsOpeningFault given fault = ((fault ≡ faults.Failed) × IsReadInPart given file_limit) ⊎ ((fault ≡ faults.Memory) × HasGiven given [])

-- no read of the file failed
abbrev pub IsWell : Lines → Type 0
IsWell lines = state_of lines.window ≢ Failed

-- the file is open, with as many bytes ready as were asked for, or all of it was fetched
abbrev pub HasEnough : Window → ℕ → Type 0
HasEnough w wanted = (state_of w ≡ Ended) ⊎ (wanted ≤ length (ready w))

-- the file is not read on, which is the fault
abbrev pub IsClosedBy : Window → StreamFault → Type 0
IsClosedBy w fault = ((fault ≡ faults.Failed) × (state_of w ≡ Failed)) ⊎ ((fault ≡ faults.TooLong) × (state_of w ≡ TooLong))

-- these bytes were passed, and nothing else became of the file
pub record PassesFront (old new : Window) (front : List ℕ) : Type 0 where
  pub parts : ready old ≡ front ++ ready new
  pub fetched : fetched_of new ≡ fetched_of old
  pub state : state_of new ≡ state_of old
  pub limit : limit_of new ≡ limit_of old

-- reads gave these bytes and no others, and they are within the limit of a file that begins with them
pub record IsWhole (gave : Pass) (bytes : List ℕ) : Type 0 where
  pub read : IsRead gave bytes
  pub within : length bytes ≤ file_limit bytes

-- what became of a file that was read to its end after reading stopped
abbrev pub IsDrained : Pass → Window → List ℕ → Stop → StreamFault → Type 0
IsDrained given old passed stop faults.Failed = IsReadInPart given file_limit
IsDrained given old passed stop faults.TooLong = IsReadPastAllowed given file_limit
IsDrained given old passed stop (faults.Shape line) = (stop ≡ stops.Shape line) × ((bytes : List ℕ) × IsWhole given bytes × StandsIn bytes old passed)
IsDrained given old passed stop (faults.Rule rule) = ⊥
IsDrained given old passed stop faults.Memory = IsBegun given

-- each content in which the new lines stand is one in which the old ones do, and reading of it there gives the value
abbrev pub Moves : {X : Type 0} → Lines → List ℕ → Lines → List ℕ → (Place → Result (X × Place) ℕ) → X → Type 0
Moves old passed new after f x = (content : List ℕ) → StandsIn content new.window after →
    StandsIn content old.window passed × (f (place_in old passed content) ≡ Ok (x, place_in new after content))

-- reading gave the value, and the lines stand behind it
abbrev pub Gives : {X : Type 0} → Pass → Pass → Lines → Lines → (Place → Result (X × Place) ℕ) → X → Type 0
Gives gave given old new f x = (passed : List ℕ) → IsBehind gave old passed →
    (front : List ℕ) × IsBehind given new (passed ++ front) × Moves old passed new (passed ++ front) f x

-- reads gave these bytes and no others, reading of which stops at this line
pub record IsMisread {X : Type 0} (given : Pass) (old : Lines) (passed : List ℕ) (f : Place → Result (X × Place) ℕ) (line : ℕ) : Type 0 where
  pub bytes : List ℕ
  pub whole : IsWhole given bytes
  pub stood : StandsIn bytes old.window passed
  pub stops : f (place_in old passed bytes) ≡ Err line

-- the fault of a file whose reading stopped
abbrev pub StopsAs : {X : Type 0} → Pass → Lines → List ℕ → (Place → Result (X × Place) ℕ) → StreamFault → Type 0
StopsAs given old passed f faults.Failed = IsReadInPart given file_limit
StopsAs given old passed f faults.TooLong = IsReadPastAllowed given file_limit
StopsAs given old passed f (faults.Shape line) = IsMisread given old passed f line
StopsAs given old passed f (faults.Rule rule) = ⊥
StopsAs given old passed f faults.Memory = IsBegun given

-- what is read, or why nothing is
abbrev pub AnswersPart : {X : Type 0} → Pass → Pass → Lines → Lines → (Place → Result (X × Place) ℕ) → Result X StreamFault → Type 0
AnswersPart gave given old new f (Ok x) = Gives gave given old new f x
AnswersPart gave given old new f (Err fault) = (passed : List ℕ) → IsBehind gave old passed → StopsAs given old passed f fault

-- reads gave these bytes and no others, and they end with the last line of a certificate
pub record IsClosed (given : Pass) (old : Lines) (passed : List ℕ) : Type 0 where
  pub bytes : List ℕ
  pub whole : IsWhole given bytes
  pub stood : StandsIn bytes old.window passed
  pub end : Place
  pub closes : read_closing (place_in old passed bytes) ≡ Ok end
