-- What a sink in memory shows: its bytes, the calls that fail, and its counts.
use Rattle.std.specs.Prelude.{ℕ, List}
use Rattle.te_ports.specs.declared.memory_sink.MemSink.{MemSink}

-- the bytes that were taken
abbrev pub sink_bytes : MemSink → List ℕ
sink_bytes s = s.bytes.items

-- how many bytes it can hold
abbrev pub sink_room : MemSink → ℕ
sink_room s = s.room

-- how many calls failed
abbrev pub sink_faults : MemSink → ℕ
sink_faults s = s.faults

-- how many calls there were, and so the number of the next
abbrev pub sink_calls : MemSink → ℕ
sink_calls s = s.calls

-- how many bytes a call takes at most
abbrev pub sink_piece : MemSink → ℕ
sink_piece s = s.piece

-- the numbers of the calls that fail
abbrev pub sink_failing : MemSink → List ℕ
sink_failing s = s.failing.items
