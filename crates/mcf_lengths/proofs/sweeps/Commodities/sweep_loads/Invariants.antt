use Rattle.std.proofs.Common.{◌≡◌}
use Rattle.rate_sweeps.specs.Sweeps.{IsDualState}
use Rattle.mcf_lengths.proofs.sweeps.Commodities.sweep_loads.Given as goal

abbrev pub invariant-loop : goal.invariant-loop
invariant-loop l = IsDualState l.self.net.now l.state × (l.searches ≡ l.initial.searches)
