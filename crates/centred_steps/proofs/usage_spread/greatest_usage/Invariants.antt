use Rattle.std.proofs.Common.{◌≡◌, ◌^◌, ◌≤◌}
use Rattle.te_model.specs.Counting.{greatest_below}
use Rattle.multiplicative_lengths.specs.Growth.{usage_of}
use Rattle.centred_steps.proofs.usage_spread.greatest_usage.Given as goal

abbrev pub invariant-loop-h : goal.invariant-loop-h
invariant-loop-h l = (l.most ≡ greatest_below l.h (usage_of l.net l.loads)) × (l.most ≤ 2 ^ 86)
