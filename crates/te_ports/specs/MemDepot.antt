-- What a depot in memory shows: its files, the calls that fail, and its counts.
use Rattle.std.specs.Prelude.{ℕ, List}
use Rattle.std.specs.declared.option.Option.{Option}
use Rattle.std.specs.Option.{option_map}
use Rattle.std.specs.BTreeMap.{get_by_text}
use Rattle.te_ports.specs.Calls.{reads_of}
use Rattle.te_ports.specs.Record.{Read}
use Rattle.te_ports.specs.declared.memory_depot.MemDepot.{MemDepot}

-- the bytes of a name that was added
abbrev pub depot_content : MemDepot → List ℕ → Option (List ℕ)
depot_content d name = option_map (λ v. v.items) (get_by_text d.files name)

-- the reads that were made
abbrev pub depot_gave : MemDepot → List Read
depot_gave d = reads_of d.log.calls

-- the failed calls, counted together for every name
abbrev pub depot_faults : MemDepot → List ℕ → ℕ
depot_faults d name = d.faults

-- how many calls there were, and so the number of the next
abbrev pub depot_calls : MemDepot → ℕ
depot_calls d = d.calls

-- how many bytes a call gives at most
abbrev pub depot_piece : MemDepot → ℕ
depot_piece d = d.piece

-- the numbers of the calls that fail
abbrev pub depot_failing : MemDepot → List ℕ
depot_failing d = d.failing.items
