use Rattle.std.proofs.Common.{List, Ok}
use Rattle.te_ports.specs.Record.{Read, pass}
use Rattle.std.specs.Prelude.{string_bytes}
use Rattle.block_reader.specs.Answers.{IsWell}
use Rattle.block_reader.specs.Blocks.{SameRoom}
use Rattle.te_ports.specs.Shown.{shown_by}
use Rattle.block_reader.specs.Depots.{ReadsNamed}
use Rattle.block_reader.proofs.Advancing.{Carries}
use Rattle.block_reader.proofs.blocks.Blocks.earliest.Given as goal

abbrev pub invariant-rest : goal.invariant-rest
invariant-rest g l =
    IsWell l.self.lines
    × SameRoom l.fn.self l.self
    × ReadsNamed {A = Unit {0}} (shown_by g.D.Depot.content g.D.Depot.gave g.D.Depot.faults l.fn.depot) (shown_by g.D.Depot.content g.D.Depot.gave g.D.Depot.faults l.depot) (string_bytes l.fn.self.name) (Ok tt)
    × ((before : List Read) → Carries (pass (string_bytes l.fn.self.name) before (g.D.Depot.gave l.fn.depot))
    (pass (string_bytes l.fn.self.name) before (g.D.Depot.gave l.depot)) l.fn.self l.self l.fn.first l.earliest)

abbrev pub decreases-rest : goal.decreases-rest
decreases-rest g l = l.self.left
