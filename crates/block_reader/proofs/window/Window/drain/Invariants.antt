use Rattle.std.proofs.Common.{◌≡◌, ◌≢◌, ◌⊎◌, ◌≤◌, ℕ, List, [], ◌++◌}
use Rattle.te_ports.specs.Ports.{Rose, Told}
use Rattle.te_ports.specs.Record.{Adds, Read, pass}
use Rattle.block_reader.specs.declared.window.State.TheVariants.{Open, Failed}
use Rattle.block_reader.specs.Standing.{ready, fetched_of, state_of, room_of, limit_of, reads_left, StandsAt, StandsIn}
use Rattle.block_reader.proofs.window.Window.drain.Given as goal

abbrev pub invariant-rest : goal.invariant-rest
invariant-rest g l =
    (g.D.Depot.content l.depot ≡ g.D.Depot.content l.fn.depot)
    × ((before : List Read) (passed : List ℕ) → StandsAt (pass l.name before (g.D.Depot.gave l.fn.depot)) l.fn.self passed →
    (more : List ℕ) × StandsAt (pass l.name before (g.D.Depot.gave l.depot)) l.self (passed ++ more))
    × Told (g.D.Depot.content l.fn.depot l.name) (λ told. (passed : List ℕ) → StandsIn told l.fn.self passed →
    (more : List ℕ) × StandsIn told l.self (passed ++ more))
    × (ready l.self ≡ [])
    × (l.self.end ≡ 0)
    × (room_of l.self ≡ room_of l.fn.self)
    × (limit_of l.self ≡ limit_of l.fn.self)
    × (state_of l.fn.self ≢ Open → (state_of l.self ≡ state_of l.fn.self) × (g.D.Depot.faults l.depot ≡ g.D.Depot.faults l.fn.depot))
    × (state_of l.self ≡ Failed → (state_of l.fn.self ≡ Failed) ⊎ Rose (g.D.Depot.faults l.fn.depot l.name) (g.D.Depot.faults l.depot l.name))
    × (state_of l.self ≢ Failed → g.D.Depot.faults l.depot ≡ g.D.Depot.faults l.fn.depot)
    × ((other : List ℕ) → g.D.Depot.faults l.fn.depot other ≤ g.D.Depot.faults l.depot other)
    × Adds (g.D.Depot.content l.fn.depot) (g.D.Depot.gave l.fn.depot) (g.D.Depot.gave l.depot)
    × (fetched_of l.fn.self ≤ fetched_of l.self)
    × (state_of l.fn.self ≢ Open → fetched_of l.self ≡ fetched_of l.fn.self)

abbrev pub decreases-rest : goal.decreases-rest
decreases-rest g l = reads_left l.self
