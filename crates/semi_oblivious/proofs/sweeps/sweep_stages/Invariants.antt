use Rattle.std.proofs.Common.{◌≤◌}
use Rattle.rate_sweeps.specs.Sweeps.{IsDualState}
use Rattle.semi_oblivious.proofs.sweeps.sweep_stages.Given as goal

abbrev pub invariant-loop : goal.invariant-loop
invariant-loop l = IsDualState l.net l.state × (1 ≤ l.step_divisor) × (l.step_divisor ≤ 128)
