-- What reading a table answers.
use Rattle.std.specs.Prelude.{◌≡◌, ◌⊎◌, List, Result, Ok, Err}
use Rattle.std.specs.declared.vec.Vec.{Vec}
use Rattle.cert_text.specs.declared.fault.Stop.{Stop}
use Rattle.cert_text.specs.declared.fault.Stop.TheVariants as stops
use Rattle.number_tables.specs.declared.line.NumLine.{NumLine}
use Rattle.number_tables.specs.declared.fault.TableFault.{TableFault}
use Rattle.number_tables.specs.declared.fault.TableFault.TheVariants as faults

-- the fault of a table at which a reader stopped
abbrev pub fault_of : Stop → TableFault
fault_of (stops.Shape k) = faults.Shape k
fault_of stops.Memory = faults.Memory

-- the answer is these lines, or memory ran out
abbrev pub GivesLinesOrMemory : {A : Type 0} → Result (Vec NumLine A) TableFault → List NumLine → Type 0
GivesLinesOrMemory (Ok v) ls = v.items ≡ ls
GivesLinesOrMemory (Err fault) ls = fault ≡ faults.Memory

-- the answer is this fault, or memory ran out
abbrev pub IsFaultOrMemory : {X : Type 0} → Result X TableFault → TableFault → Type 0
IsFaultOrMemory result fault = (result ≡ Err fault) ⊎ (result ≡ Err faults.Memory)
