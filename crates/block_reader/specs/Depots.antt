-- What a call that reads a file may do to a depot.
use Rattle.std.specs.Prelude.{◌≡◌, ◌≢◌, ◌≤◌, ℕ, List, Result, Err, IsErrOf}
use Rattle.te_ports.specs.Ports.{Rose}
use Rattle.te_ports.specs.Record.{Adds}
use Rattle.te_ports.specs.Shown.{Shown}
use Rattle.block_reader.specs.declared.stream_fault.StreamFault.{StreamFault}
use Rattle.block_reader.specs.declared.stream_fault.StreamFault.TheVariants.{Failed}

-- it answers a failed read only where a read of the file failed in the call, tells what it told, and adds to what is on record
pub record ReadsNamed {A : Type 0} (old new : Shown) (name : List ℕ) (result : Result A StreamFault) : Type 0 where
  pub failed : IsErrOf result Failed → Rose (old.faults name) (new.faults name)
  pub steady : result ≢ Err Failed → new.faults ≡ old.faults
  pub later : (other : List ℕ) → old.faults other ≤ new.faults other
  pub added : Adds old.content old.gave new.gave
  pub content : new.content ≡ old.content

-- the same of a call that answers a fault
abbrev pub ReadsTo : Shown → Shown → List ℕ → StreamFault → Type 0
ReadsTo old new name fault = ReadsNamed {A = Unit {0}} old new name (Err fault)
