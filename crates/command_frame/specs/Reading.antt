-- What a command does with files: it reads them one after another, each against what the ones before it gave, and answers.
use Rattle.std.specs.Prelude.{◌≡◌, ◌≤◌, ◌⊎◌, ℕ, List, [], ◌∷◌, ◌++◌, codes, length, Option, Some, Result, Ok, Err}
use Rattle.te_ports.specs.Record.{Read, Pass, pass}
use Rattle.command_frame.specs.Files.{Files, Passes}

-- a kind of files: how many bytes one may have that begins with these, and what its bytes give, a value or the words for which they
-- are refused
pub record Kind (A : Type 0) : Type 1 where
  pub limit : List ℕ → ℕ
  pub gives : List ℕ → Result A (List ℕ) → Type 0

-- what a command answers: its status alone, its status and its text, and what its text at status 0 proves
pub record Answers : Type 1 where
  pub status : ℕ → Type 0
  pub text : ℕ → List ℕ → Type 0
  pub proves : List ℕ → Type 0

pub data Reading : Type 1 where
  -- all files were read
  answers : Answers → Reading
  -- the file of this name is read: it has too many bytes, or they give a value or are refused
  reads : (A : Type 0) → Kind A → List ℕ → (A → Reading) → Reading

-- the line that refuses a file, by its name as it was given
abbrev pub refused_line : List ℕ → List ℕ → List ℕ
refused_line file words = codes "refused: " ++ (file ++ (codes ": " ++ (words ++ 10 ∷ [])))

-- the words for a file that has too many bytes
abbrev pub too_long : List ℕ
too_long = codes "too long"

-- the bytes of a pass over a file give the value
abbrev pub GivesIn : {A : Type 0} → Kind A → Passes → Pass → A → Type 0
GivesIn kind passes p value =
    (bytes : List ℕ) × passes.whole p bytes × (length bytes ≤ kind.limit bytes) × kind.gives bytes (Ok value)

-- its file is refused, which the line says
abbrev pub RefusedIn : {A : Type 0} → Kind A → Passes → Pass → List ℕ → Type 0
RefusedIn kind passes p line =
    (passes.longer p kind.limit × (line ≡ refused_line p.name too_long))
    ⊎ ((bytes : List ℕ) × (words : List ℕ) × passes.whole p bytes × (length bytes ≤ kind.limit bytes) × kind.gives bytes (Err words)
    × (line ≡ refused_line p.name words))

-- the status and the text that files mean which are read one after another, the first one after these reads, and no others
abbrev pub MeansAfter : Reading → Passes → List Read → ℕ → List ℕ → Type 0
MeansAfter (answers a) passes before status text = a.text status text × passes.ends before
MeansAfter (reads A kind file next) passes before status text =
    ((status ≡ 3) × (now : List Read) × RefusedIn kind passes (pass file before now) text × passes.ends now)
    ⊎ ((value : A) × (now : List Read) × GivesIn kind passes (pass file before now) value × MeansAfter (next value) passes now status text)

-- the status and the text that the files mean: the text goes to the standard output at 0 and 1, and to the standard error
-- at 3 and 7
abbrev pub Means : Reading → Files → ℕ → List ℕ → Type 0
Means reading files status text = MeansAfter reading files.passes files.start status text

-- the status alone, whether or not it has more than one text
abbrev pub MeansStatusAfter : Reading → Passes → List Read → ℕ → Type 0
MeansStatusAfter (answers a) passes before status = a.status status × passes.ends before
MeansStatusAfter (reads A kind file next) passes before status =
    ((status ≡ 3) × (now : List Read) × ((line : List ℕ) × RefusedIn kind passes (pass file before now) line) × passes.ends now)
    ⊎ ((value : A) × (now : List Read) × GivesIn kind passes (pass file before now) value × MeansStatusAfter (next value) passes now status)

abbrev pub MeansStatus : Reading → Files → ℕ → Type 0
MeansStatus reading files status = MeansStatusAfter reading files.passes files.start status

-- the text is one at status 0, and what it proves of what the files give
abbrev pub ProvesAfter : Reading → Passes → List Read → List ℕ → Type 0
ProvesAfter (answers a) passes before text = a.text 0 text × a.proves text × passes.ends before
ProvesAfter (reads A kind file next) passes before text =
    (value : A) × (now : List Read) × GivesIn kind passes (pass file before now) value × ProvesAfter (next value) passes now text

abbrev pub Proves : Reading → Files → List ℕ → Type 0
Proves reading files text = ProvesAfter reading files.passes files.start text

-- a file has this property that is reached, and was not read to its end: those before it gave values, and none is read after it
abbrev pub ReadFailedAfter : Reading → Passes → List Read → (List ℕ → Type 0) → Type 0
ReadFailedAfter (answers a) passes before Fails = ⊥
ReadFailedAfter (reads A kind file next) passes before Fails =
    (Fails file × (now : List Read) × passes.part (pass file before now) kind.limit × passes.ends now)
    ⊎ ((value : A) × (now : List Read) × GivesIn kind passes (pass file before now) value × ReadFailedAfter (next value) passes now Fails)

abbrev pub ReadFailed : Reading → Files → (List ℕ → Type 0) → Type 0
ReadFailed reading files Fails = ReadFailedAfter reading files.passes files.start Fails

-- the files that are to be read are told: none is read after one that is refused
abbrev pub IsTold : Reading → (List ℕ → Option (List ℕ)) → Type 0
IsTold (answers a) content = Unit {0}
IsTold (reads A kind file next) content =
    (bytes : List ℕ) × (content file ≡ Some bytes)
    × (length bytes ≤ kind.limit bytes → (value : A) → kind.gives bytes (Ok value) → IsTold (next value) content)

-- the line refuses a file of which nothing is told that gives a value
abbrev pub RefusesUntoldAfter : Reading → Passes → List Read → (List ℕ → Option (List ℕ)) → List ℕ → Type 0
RefusesUntoldAfter (answers a) passes before content line = ⊥
RefusesUntoldAfter (reads A kind file next) passes before content line =
    (((now : List Read) × RefusedIn kind passes (pass file before now) line × passes.ends now)
    × ((bytes : List ℕ) → content file ≡ Some bytes → length bytes ≤ kind.limit bytes → (value : A) → ¬ kind.gives bytes (Ok value)))
    ⊎ ((value : A) × (now : List Read) × GivesIn kind passes (pass file before now) value × RefusesUntoldAfter (next value) passes now content line)

abbrev pub RefusesUntold : Reading → Files → (List ℕ → Option (List ℕ)) → List ℕ → Type 0
RefusesUntold reading files content line = RefusesUntoldAfter reading files.passes files.start content line
