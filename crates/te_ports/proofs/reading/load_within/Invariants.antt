use Rattle.std.proofs.Common.{◌≡◌, ◌≤◌, ◌+◌, ◌-◌, ◌^◌, length}
use Rattle.te_ports.specs.Record.{Adds, pass, HasGiven}
use Rattle.te_ports.proofs.reading.load_within.Given as goal

abbrev pub invariant-chunks : goal.invariant-chunks
invariant-chunks g l =
    (g.D.Depot.content l.depot ≡ g.D.Depot.content l.fn.depot) ×
    (g.D.Depot.faults l.depot ≡ g.D.Depot.faults l.fn.depot) ×
    Adds (g.D.Depot.content l.fn.depot) (g.D.Depot.gave l.fn.depot) (g.D.Depot.gave l.depot) ×
    HasGiven (pass l.name (g.D.Depot.gave l.fn.depot) (g.D.Depot.gave l.depot)) l.bytes.items ×
    (l.allowed ≡ g.L.Limit.allowed l.limit l.bytes.items) ×
    (length l.bytes.items ≤ l.allowed + 1)

abbrev pub decreases-chunks : goal.decreases-chunks
decreases-chunks g l = 2 ^ 30 + 1 - length l.bytes.items
