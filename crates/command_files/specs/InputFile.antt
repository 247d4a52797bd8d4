-- The files of other kinds than certificates: how long they may be, and what they give by the function that reads them, or by what they mean.
use Rattle.std.specs.Prelude.{◌≡◌, ℕ, List, Result, Ok, Err}
use Rattle.command_frame.specs.Reading.{Kind}

-- 64 MiB
abbrev pub input_limit : ℕ
input_limit = 67108864

-- a reader's answer, with its fault in words
abbrev pub in_words : {A F : Type 0} → (F → List ℕ) → Result A F → Result A (List ℕ)
in_words reason (Ok value) = Ok value
in_words reason (Err fault) = Err (reason fault)

-- the files that this reader reads
abbrev pub inputs : {A F : Type 0} → (F → List ℕ) → (List ℕ → Result A F) → Kind A
inputs reason reader = record { limit = λ _. input_limit; gives = λ bytes answer. in_words reason (reader bytes) ≡ answer }

-- what bytes mean, a value or a fault, with the fault in words
abbrev pub GivesMeant : {A F : Type 0} → (F → List ℕ) → (List ℕ → Result A F → Type 0) → List ℕ → Result A (List ℕ) → Type 0
GivesMeant reason Means bytes (Ok value) = Means bytes (Ok value)
GivesMeant {F = F} reason Means bytes (Err words) = (fault : F) × Means bytes (Err fault) × (words ≡ reason fault)

-- the files that mean so
abbrev pub inputs_meant : {A F : Type 0} → (F → List ℕ) → (List ℕ → Result A F → Type 0) → Kind A
inputs_meant reason Means = record { limit = λ _. input_limit; gives = GivesMeant reason Means }
