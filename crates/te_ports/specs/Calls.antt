-- The calls of a port, and what the system answered.
use Rattle.std.specs.Prelude.{ℕ, List, [], ◌∷◌, take, length, flat_map, Result, Ok, Err, if◌then◌else◌, ◌==◌}
use Rattle.te_ports.specs.declared.system.SystemFault.{SystemFault}
use Rattle.te_ports.specs.declared.log.Call.{Call}
use Rattle.te_ports.specs.declared.log.Call.TheVariants as call
use Rattle.te_ports.specs.Record.{Read, read}

-- a call of the system with its answer: a read of the file of a name at a place, with so much room, and the bytes that it gave or its
-- fault; or a write of bytes, and how many it took or its fault
pub data SystemCall : Type 0 where
  reads : (name : List ℕ) (at room : ℕ) (answer : Result (List ℕ) SystemFault) → SystemCall
  writes : (bytes : List ℕ) (answer : Result ℕ SystemFault) → SystemCall

-- what a value of the code that describes a call says
abbrev pub system_call : Call → SystemCall
system_call (call.Read name at room (Ok bytes)) = reads name.now at room (Ok bytes.now)
system_call (call.Read name at room (Err fault)) = reads name.now at room (Err fault)
system_call (call.Write bytes answer) = writes bytes.now answer

-- the bytes that were read into a buffer, or the fault
abbrev pub bytes_read : Result ℕ SystemFault → List ℕ → Result (List ℕ) SystemFault
bytes_read (Ok n) buf = Ok (take n buf)
bytes_read (Err fault) buf = Err fault

-- a read into this buffer with this answer
abbrev pub read_into : List ℕ → ℕ → Result ℕ SystemFault → List ℕ → SystemCall
read_into name at answer buf = reads name at (length buf) (bytes_read answer buf)

-- the read that a call is, where it was one with room for a byte and did not fail
abbrev pub read_by : SystemCall → List Read
read_by (reads name at room (Ok bytes)) = if room == 0 then [] else read name at bytes ∷ []
read_by (reads name at room (Err fault)) = []
read_by (writes bytes answer) = []

abbrev pub reads_of : List SystemCall → List Read
reads_of calls = flat_map read_by calls

-- the bytes that a call took, where it was a write
abbrev pub taken_by : SystemCall → List ℕ
taken_by (reads name at room answer) = []
taken_by (writes bytes (Ok n)) = take n bytes
taken_by (writes bytes (Err fault)) = []

abbrev pub taken_of : List SystemCall → List ℕ
taken_of calls = flat_map taken_by calls
