use Rattle.std.proofs.Common.{◌≡◌, map}
use Rattle.std.specs.List.{range_with_len}
use Rattle.experiment.specs.Envelope.{greatest_demand, least_demand}
use Rattle.experiment.proofs.envelope.envelope_of.Given as goal

-- the demands of the pairs so far
abbrev pub invariant-loop-p : goal.invariant-loop-p
invariant-loop-p l = record {
  lower : l.lower.items ≡ map (least_demand l.steps) (range_with_len 0 l.p);
  upper : l.upper.items ≡ map (greatest_demand l.steps) (range_with_len 0 l.p);
}
