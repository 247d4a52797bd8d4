-- What has to be true of the kinds of a command's files, and of its answers.
use Rattle.std.specs.Prelude.{◌≡◌, ℕ, List, Result, Ok}
use Rattle.te_ports.specs.Limit.{IsLimit}
use Rattle.command_frame.specs.Reading.{Kind, Answers, Reading, answers, reads}

-- once all files were read, whatever they gave, the answer has this property
abbrev pub AtEnd : Reading → (Answers → Type 0) → Type 0
AtEnd (answers a) P = P a
AtEnd (reads A kind file next) P = (bytes : List ℕ) (value : A) → kind.gives bytes (Ok value) → AtEnd (next value) P

-- files may be read piece by piece, and bytes are read in one way
pub record IsRegular {A : Type 0} (kind : Kind A) : Type 0 where
  pub limited : IsLimit kind.limit
  pub once : (bytes : List ℕ) (x y : Result A (List ℕ)) → kind.gives bytes x → kind.gives bytes y → x ≡ y
  pub some : (bytes : List ℕ) → (x : Result A (List ℕ)) × kind.gives bytes x

abbrev pub AreRegular : Reading → Type 0
AreRegular (answers a) = Unit {0}
AreRegular (reads A kind file next) = IsRegular kind × ((value : A) → AreRegular (next value))

-- the status is one, and is that of each text, the text at status 0 proves, and no file is refused when all were read
pub record IsSound (Form : ℕ → List ℕ → Type 0) (a : Answers) : Type 0 where
  pub once : (s t : ℕ) → a.status s → a.status t → s ≡ t
  pub some : (s : ℕ) × a.status s
  pub of_text : (s : ℕ) (text : List ℕ) → a.text s text → a.status s
  pub proves : (text : List ℕ) → a.text 0 text → a.proves text
  pub form : (s : ℕ) (text : List ℕ) → a.text s text → Form s text
  pub accepted : (text : List ℕ) → a.text 3 text → ⊥

-- there is a status with a text
abbrev pub HasText : Answers → Type 0
HasText a = (s : ℕ) × (text : List ℕ) × a.text s text

-- and no other text
abbrev pub HasOneText : Answers → Type 0
HasOneText a = (s t : ℕ) (x y : List ℕ) → a.text s x → a.text t y → x ≡ y
