use Rattle.std.proofs.Common.{◌-◌}
use Rattle.rate_sweeps.specs.Sweeps.{IsDualState}
use Rattle.semi_oblivious.specs.Sweeps.{AreFixedSweeps}
use Rattle.semi_oblivious.proofs.sweeps.stage.Given as goal

abbrev pub invariant-loop-i : goal.invariant-loop-i
invariant-loop-i l = IsDualState l.net l.state × AreFixedSweeps (l.i - 10) l.net l.fixed.routes l.sweeps.items
