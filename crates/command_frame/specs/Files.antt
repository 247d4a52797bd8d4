-- What is known of files that are read one after another.
use Rattle.std.specs.Prelude.{◌≡◌, ◌<◌, ℕ, List, [], length, Option, Some}
use Rattle.te_ports.specs.Ports.{Told}
use Rattle.te_ports.specs.Record.{Read, Pass, IsRead, IsReadInPart, IsReadPastAllowed}

-- of a pass over a file: the bytes from the start of the file to its end, that there are more than a limit allows for them, and that
-- it came to neither. Of what is on record: that nothing was read after it.
pub record Passes : Type 1 where
  pub whole : Pass → List ℕ → Type 0
  pub longer : Pass → (List ℕ → ℕ) → Type 0
  pub part : Pass → (List ℕ → ℕ) → Type 0
  pub ends : List Read → Type 0

-- the same, and what is on record before the first of them
pub record Files : Type 1 where
  pub start : List Read
  pub passes : Passes

-- as they are told: what is on record says nothing
abbrev pub told_passes : (List ℕ → Option (List ℕ)) → Passes
told_passes content = record {
  whole = λ p bytes. content p.name ≡ Some bytes;
  longer = λ p limit. (bytes : List ℕ) × (content p.name ≡ Some bytes) × (limit bytes < length bytes);
  part = λ p limit. Unit {0};
  ends = λ now. Unit {0};
}

abbrev pub told_files : (List ℕ → Option (List ℕ)) → Files
told_files content = record { start = []; passes = told_passes content }

-- what is on record at the start of a call, and at its end
pub record Span : Type 0 where
  pub before : List Read
  pub now : List Read

abbrev pub span : List Read → List Read → Span
span before now = record { before = before; now = now }

-- as reads gave them, and this was on record after the last of them
abbrev pub given_passes : List Read → Passes
given_passes last = record {
  whole = IsRead;
  longer = IsReadPastAllowed;
  part = IsReadInPart;
  ends = λ now. now ≡ last;
}

abbrev pub given_files : Span → Files
given_files made = record { start = made.before; passes = given_passes made.now }

-- the same, and of a file that is told what is told
abbrev pub known_passes : List Read → (List ℕ → Option (List ℕ)) → Passes
known_passes last content = record {
  whole = λ p bytes. IsRead p bytes × Told (content p.name) (λ all. bytes ≡ all);
  longer = λ p limit. IsReadPastAllowed p limit × Told (content p.name) (λ all. limit all < length all);
  part = IsReadInPart;
  ends = λ now. now ≡ last;
}

abbrev pub known_files : Span → (List ℕ → Option (List ℕ)) → Files
known_files made content = record { start = made.before; passes = known_passes made.now content }
