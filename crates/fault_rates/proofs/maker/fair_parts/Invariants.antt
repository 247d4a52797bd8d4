use Rattle.std.proofs.Common.{◌*◌, ◌/◌, ◌-◌, ◌<◌, ◌≤◌, slice_index}
use Rattle.fault_rates.specs.Making.{EvenFits}
use Rattle.fault_rates.proofs.maker.fair_parts.Given as goal

abbrev pub invariant-loop-high : goal.invariant-loop-high
invariant-loop-high l = record {
  ordered : l.low < l.high;
  few : l.high ≤ 1000001;
  fits : EvenFits l.net l.routes (λ p. slice_index l.caps p * l.low / 1000000);
}

abbrev pub decreases-loop-high : goal.decreases-loop-high
decreases-loop-high l = l.high - l.low
