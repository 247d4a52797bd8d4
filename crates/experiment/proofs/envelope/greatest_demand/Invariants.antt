use Rattle.std.proofs.Common.{◌≡◌, take}
use Rattle.experiment.specs.Envelope.{greatest_demand}
use Rattle.experiment.proofs.envelope.greatest_demand.Given as goal

-- the greatest so far
abbrev pub invariant-loop-step : goal.invariant-loop-step
invariant-loop-step l = l.greatest ≡ greatest_demand (take l.step-index l.steps) l.pair
