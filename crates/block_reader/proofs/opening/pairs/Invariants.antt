use Rattle.std.proofs.Common.{List, Ok}
use Rattle.te_ports.specs.Record.{Read, pass}
use Rattle.cert_text.specs.Listed.{IsListOf}
use Rattle.cert_text.specs.Fits.{FitsPair}
use Rattle.cert_text.specs.Reading.{narrow_number, read_many}
use Rattle.cert_text.specs.Grammar.{read_pair}
use Rattle.block_reader.specs.Answers.{IsWell, Gives}
use Rattle.te_ports.specs.Shown.{shown_by}
use Rattle.block_reader.specs.Depots.{ReadsNamed}
use Rattle.block_reader.proofs.opening.pairs.Given as goal

abbrev pub invariant-loop : goal.invariant-loop
invariant-loop g l =
    IsListOf l.counter (FitsPair l.limits) l.items.items
    × IsWell l.lines
    × ((before : List Read) → Gives (pass l.name before (g.D.Depot.gave l.fn.depot)) (pass l.name before (g.D.Depot.gave l.depot)) l.fn.lines l.lines (read_many l.counter (read_pair l.limits narrow_number)) l.items.items)
    × ReadsNamed {A = Unit {0}} (shown_by g.D.Depot.content g.D.Depot.gave g.D.Depot.faults l.fn.depot) (shown_by g.D.Depot.content g.D.Depot.gave g.D.Depot.faults l.depot) l.name (Ok tt)
