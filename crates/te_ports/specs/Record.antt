-- What reads gave: a list of the reads, in their order.
use Rattle.std.specs.Prelude.{◌≡◌, ◌⊎◌, ℕ, ◌+◌, ◌≤◌, List, [], ◌∷◌, ◌++◌, take, drop, length, All}
use Rattle.std.specs.declared.option.Option.{Option}
use Rattle.te_ports.specs.Ports.{Told}

-- a read that had room for a byte: the name of its file, the place, and the bytes that it gave from there on
pub record Read : Type 0 where
  pub name : List ℕ
  pub at : ℕ
  pub bytes : List ℕ

abbrev pub read : List ℕ → ℕ → List ℕ → Read
read name at bytes = record { name = name; at = at; bytes = bytes }

-- the bytes stand in the content from this place on, and are none only at its end
pub record IsPiece (content : List ℕ) (at : ℕ) (bytes : List ℕ) : Type 0 where
  pub bytes_are : bytes ≡ take (length bytes) (drop at content)
  pub ends : length bytes ≡ 0 → length content ≤ at

-- the read gave a piece of its file, where that is told
abbrev pub IsOfTold : (List ℕ → Option (List ℕ)) → Read → Type 0
IsOfTold content r = Told (content r.name) (λ told. IsPiece told r.at r.bytes)

-- reads followed, each of which gave a piece of its file, where that is told
pub record Adds (content : List ℕ → Option (List ℕ)) (old new : List Read) : Type 0 where
  pub more : List Read
  pub is : new ≡ old ++ more
  pub pieces : All (IsOfTold content) more

-- the reads from one time to another, which are to be of the file of this name
pub record Pass : Type 0 where
  pub name : List ℕ
  pub before : List Read
  pub now : List Read

abbrev pub pass : List ℕ → List Read → List Read → Pass
pass name before now = record { name = name; before = before; now = now }

-- these reads followed, and no other: of this file, the first from its start and each one from where that before it ended. Each gave
-- a byte or more, and together they gave the bytes
pub data Follow (name : List ℕ) (before : List Read) : List Read → List ℕ → Type 0 where
  nothing : (now : List Read) (bytes : List ℕ) → now ≡ before → bytes ≡ [] → Follow name before now bytes
  more : (then now : List Read) (front bytes piece : List ℕ) → Follow name before then front → 1 ≤ length piece →
      now ≡ then ++ read name (length front) piece ∷ [] → bytes ≡ front ++ piece → Follow name before now bytes

-- the reads of a pass gave these bytes of its file, one after another from the start on
abbrev pub HasGiven : Pass → List ℕ → Type 0
HasGiven p bytes = Follow p.name p.before p.now bytes

-- and then one gave nothing: these are the bytes from the start of the file to its end
pub record IsRead (p : Pass) (bytes : List ℕ) : Type 0 where
  pub reads : List Read
  pub given : HasGiven (pass p.name p.before reads) bytes
  pub ends : p.now ≡ reads ++ read p.name (length bytes) [] ∷ []

-- a pass was begun, and perhaps came to the end of its file
abbrev pub IsBegun : Pass → Type 0
IsBegun p = (bytes : List ℕ) × (HasGiven p bytes ⊎ IsRead p bytes)

-- a pass was begun and did not come to the end of its file: its reads gave no more bytes than are allowed for a file that begins
-- with them
pub record IsReadInPart (p : Pass) (allowed : List ℕ → ℕ) : Type 0 where
  pub bytes : List ℕ
  pub given : HasGiven p bytes
  pub within : length bytes ≤ allowed bytes

-- the reads of a pass gave one byte more of its file than is allowed for a file that begins with them
pub record IsReadPastAllowed (p : Pass) (allowed : List ℕ → ℕ) : Type 0 where
  pub bytes : List ℕ
  pub given : HasGiven p bytes
  pub past : length bytes ≡ allowed bytes + 1

-- one byte more than the limit allows
abbrev pub IsReadPast : Pass → ℕ → Type 0
IsReadPast p limit = IsReadPastAllowed p (λ _. limit)

-- at most one read followed, of the file of this name at this place
abbrev pub AtMostOneRead : List Read → List Read → List ℕ → ℕ → Type 0
AtMostOneRead old new name at = (new ≡ old) ⊎ ((bytes : List ℕ) × (new ≡ old ++ read name at bytes ∷ []))

-- reads of a file that gave these pieces, each from where the one before it ended, the first from this place
abbrev pub reads_from : List ℕ → ℕ → List (List ℕ) → List Read
reads_from name at [] = []
reads_from name at (piece ∷ pieces) = read name at piece ∷ reads_from name (at + length piece) pieces
