use Rattle.std.proofs.Common.{◌≡◌, min, slice_index, take}
use Rattle.std.specs.List.{fold}
use Rattle.experiment.specs.Envelope.{greatest_demand}
use Rattle.experiment.proofs.envelope.least_demand.Given as goal

-- the least so far, from the greatest on
abbrev pub invariant-loop-step : goal.invariant-loop-step
invariant-loop-step l =
    l.least ≡ fold (λ least step. min least (slice_index step.demand l.pair)) (greatest_demand l.steps l.pair) (take l.step-index l.steps)
