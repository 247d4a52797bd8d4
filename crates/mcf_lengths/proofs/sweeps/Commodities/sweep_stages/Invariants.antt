use Rattle.std.proofs.Common.{◌≤◌}
use Rattle.shortest_path.specs.declared.rows.Direction.TheVariants.{Forward}
use Rattle.shortest_path.specs.Rows.{IsSearchGraph}
use Rattle.rate_sweeps.specs.Sweeps.{IsDualState}
use Rattle.mcf_lengths.proofs.sweeps.Commodities.sweep_stages.Given as goal

abbrev pub invariant-loop : goal.invariant-loop
invariant-loop l =
    IsDualState l.self.net.now l.state
    × IsSearchGraph l.self.net.now Forward l.searches
    × (1 ≤ l.step_divisor) × (l.step_divisor ≤ 128)
