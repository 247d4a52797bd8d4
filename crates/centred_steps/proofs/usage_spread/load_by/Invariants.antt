use Rattle.std.proofs.Common.{◌≡◌, ◌*◌, ◌^◌, ◌≤◌}
use Rattle.centred_steps.specs.UsageSpread.{weighted_load}
use Rattle.centred_steps.proofs.usage_spread.load_by.Given as goal

abbrev pub invariant-loop-h : goal.invariant-loop-h
invariant-loop-h l = (l.total ≡ weighted_load l.h l.weights l.loads) × (l.total ≤ l.h * 2 ^ 93)
