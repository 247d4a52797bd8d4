-- What a depot that writes its reads down has on record.
use Rattle.std.specs.Prelude.{◌≡◌, ◌⊎◌, ℕ, List, [], ◌∷◌, ◌++◌, map, string_bytes}
use Rattle.te_ports.specs.declared.record_depot.Entry.{Entry}
use Rattle.te_ports.specs.Ports.{Rose}
use Rattle.te_ports.specs.Record.{Read, read}
use Rattle.te_ports.specs.Shown.{Shown}

-- the read that an entry is of
abbrev pub read_of_entry : Entry → Read
read_of_entry entry = read (string_bytes entry.name) entry.at entry.bytes.items

-- the reads that were written down
abbrev pub written_down : List Entry → List Read
written_down entries = map read_of_entry entries

-- the read of another depot failed, and it has no read more on record
pub record HasFailed (name : List ℕ) (old new : Shown) : Type 0 where
  pub gave : new.gave ≡ old.gave
  pub rose : Rose (old.faults name) (new.faults name)

-- the read of another depot gave bytes, which could not be written down
pub record IsUnwritten (name : List ℕ) (at : ℕ) (old new : Shown) : Type 0 where
  pub bytes : List ℕ
  pub gave : new.gave ≡ old.gave ++ read name at bytes ∷ []
  pub steady : new.faults ≡ old.faults

-- a read fails where that of the other depot did, or memory was short for its entry
abbrev pub FailsBy : List ℕ → ℕ → Shown → Shown → Type 0
FailsBy name at old new = HasFailed name old new ⊎ IsUnwritten name at old new
