use Rattle.rate_sweeps.specs.Sweeps.{IsDualState}
use Rattle.semi_oblivious.proofs.sweeps.sweep_loads.Given as goal

abbrev pub invariant-loop : goal.invariant-loop
invariant-loop l = IsDualState l.net l.state
