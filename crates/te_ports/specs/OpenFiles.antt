-- What a file that is kept open shows, and what a read of it does.
use Rattle.std.specs.Prelude.{◌≡◌, ◌≢◌, ℕ, List, take, Err, IsErr, MatchResult}
use Rattle.std.specs.declared.option.Option.{Option}
use Rattle.std.specs.declared.result.Result.{Result}
use Rattle.std.specs.Io.KnownBytes.{Keeps, ReadConsumes}
use Rattle.std.specs.Io.Seek.{SeekMoves}
use Rattle.std.specs.declared.io.traits.SeekFrom.TheVariants.{Start}
use Rattle.te_ports.specs.declared.file_name.FileName.{FileName}

-- the bytes of the name
abbrev pub name_bytes : FileName → List ℕ
name_bytes name = take name.length name.bytes

-- what a file tells of itself: the bytes that reads will give, where it stands, and all its bytes
pub record Telling (F : Type 0) : Type 0 where
  pub remaining : F → Option (List ℕ)
  pub position : F → Option ℕ
  pub contents : F → Option (List ℕ)

-- The file goes to this place, and then a read gives what it has left there; a move that fails is the answer. After a read that failed the
-- next one begins at that place, and after a move that failed where it would have begun before.
pub record GoesAndReads {F E : Type 0} (tells : Telling F) (next now : ℕ) (old new : F) (at : ℕ) (result : Result ℕ E) (buf : List ℕ) : Type 0 where
  pub there : F
  pub sought : Result ℕ E
  pub moves : SeekMoves (tells.position old) (tells.position there) (tells.contents old) (Start at) sought
  pub keeps : Keeps (tells.contents old) (tells.contents there)
  pub reads : MatchResult sought (λ _. ReadConsumes (tells.remaining there) (tells.remaining new) result buf)
      (λ error. (new ≡ there) × (result ≡ Err error))
  pub goes_on : MatchResult sought (λ _. IsErr result → now ≡ at) (λ _. now ≡ next)

-- a read at this place of a file whose next read begins at another place or at this one, and then at the place `now`
pub record ReadsAt {F E : Type 0} (tells : Telling F) (next now : ℕ) (old new : F) (at : ℕ) (result : Result ℕ E) (buf : List ℕ) : Type 0 where
  pub on : next ≡ at → ReadConsumes (tells.remaining old) (tells.remaining new) result buf
  pub stays : next ≡ at → IsErr result → now ≡ at
  pub away : next ≢ at → GoesAndReads tells next now old new at result buf

abbrev pub telling : {F : Type 0} → (F → Option (List ℕ)) → (F → Option ℕ) → (F → Option (List ℕ)) → Telling F
telling remaining position contents = record { remaining = remaining; position = position; contents = contents }
