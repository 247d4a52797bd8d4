use Rattle.std.proofs.Common.{◌-◌}
use Rattle.shortest_path.specs.declared.rows.Direction.TheVariants.{Backward}
use Rattle.shortest_path.specs.Rows.{IsSearchGraph}
use Rattle.rate_sweeps.specs.Sweeps.{IsDualState}
use Rattle.mcf_lengths.specs.Sweeps.{AreLeastSweeps}
use Rattle.mcf_lengths.proofs.sweeps.Commodities.stage.Given as goal

abbrev pub invariant-loop-i : goal.invariant-loop-i
invariant-loop-i l =
    IsDualState l.self.net.now l.state × AreLeastSweeps (l.i - 10) l.self.net.now l.self.pairs.now.list l.sweeps.items
    × IsSearchGraph l.self.net.now Backward l.searches
