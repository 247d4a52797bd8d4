-- The test commands: `tally FILE` answers the size of a file, and `same FIRST SECOND` whether two files have one size, for which words
-- of four and of five ask as well.
use Rattle.std.specs.Prelude.{◌≡◌, ◌≢◌, ◌⊎◌, ◌≤◌, ℕ, List, [], ◌∷◌, ◌++◌, codes, ◌&&◌, if◌then◌else◌, Option, Some, None}
use Rattle.std.specs.Str.{bytes_eq}
use Rattle.std.specs.Fmt.{decimal}
use Rattle.command_frame.specs.Reading.{Answers, answers, reads}
use Rattle.command_frame.specs.Table.{Entry, TableOf}
use Rattle.frame_tests.specs.SizeFile.{sizes}

abbrev pub tally_of : ℕ → Answers
tally_of size = record {
  status = λ status. status ≡ 0;
  text = λ status text. (status ≡ 0) × (text ≡ decimal size ++ 10 ∷ []);
  proves = λ text. text ≡ decimal size ++ 10 ∷ [];
}

-- a yes proves that the two sizes are one
abbrev pub sameness_of : ℕ → ℕ → Answers
sameness_of first second = record {
  status = λ status. ((status ≡ 0) × (first ≡ second)) ⊎ ((status ≡ 1) × (first ≢ second));
  text = λ status text. ((status ≡ 0) × (first ≡ second) × (text ≡ codes "same" ++ 10 ∷ []))
      ⊎ ((status ≡ 1) × (first ≢ second) × (text ≡ codes "other" ++ 10 ∷ []));
  proves = λ text. first ≡ second;
}

pub data SizeCommand : Type 0 where
  tally : List ℕ → SizeCommand
  same : List ℕ → List ℕ → SizeCommand

abbrev pub command_of : List (List ℕ) → Option SizeCommand
command_of [] = None
command_of (word ∷ []) = None
command_of (word ∷ file ∷ []) = if bytes_eq word (codes "tally") then Some (tally file) else None
command_of (word ∷ first ∷ second ∷ []) = if bytes_eq word (codes "same") then Some (same first second) else None
command_of (word ∷ first ∷ join ∷ second ∷ []) = if bytes_eq word (codes "is") && bytes_eq join (codes "as") then Some (same first second) else None
command_of (word ∷ first ∷ how ∷ join ∷ second ∷ []) =
    if bytes_eq word (codes "is") && (bytes_eq how (codes "exactly") && bytes_eq join (codes "as")) then Some (same first second) else None
command_of (word ∷ first ∷ how ∷ join ∷ second ∷ more ∷ words) = None

abbrev pub entry_of : SizeCommand → Entry
entry_of (tally file) = record {
  reading = reads ℕ sizes file (λ size. answers (tally_of size));
  may_answer = λ status text. status ≡ 0;
  has_one_text = Unit {0};
  in_range = Unit {0};
}
entry_of (same first second) = record {
  reading = reads ℕ sizes first (λ size. reads ℕ sizes second (λ other. answers (sameness_of size other)));
  may_answer = λ status text. status ≤ 1;
  has_one_text = Unit {0};
  in_range = Unit {0};
}

abbrev pub commands : TableOf SizeCommand
commands = record { command_of = command_of; entry_of = entry_of }
