-- What reading a witness answers.
use Rattle.std.specs.Prelude.{◌≡◌, ◌⊎◌, Result, Err}
use Rattle.number_tables.specs.declared.fault.TableFault.{TableFault}
use Rattle.number_tables.specs.declared.fault.TableFault.TheVariants as tables
use Rattle.ratio_witness.specs.declared.fault.WitnessFault.{WitnessFault}
use Rattle.ratio_witness.specs.declared.fault.WitnessFault.TheVariants as faults
use Rattle.ratio_witness.specs.declared.witness.Witness.{Witness}

-- the fault of a table as one of a witness
abbrev pub fault_of : TableFault → WitnessFault
fault_of (tables.Shape k) = faults.Shape k
fault_of tables.Memory = faults.Memory

-- the answer is the one that is due, or memory ran out
abbrev pub IsDueOrMemory : Result Witness WitnessFault → Result Witness WitnessFault → Type 0
IsDueOrMemory result due = (result ≡ due) ⊎ (result ≡ Err faults.Memory)
