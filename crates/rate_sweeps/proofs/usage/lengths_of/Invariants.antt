use Rattle.std.proofs.Common.{◌≡◌, ◌^◌, length, map, take}
use Rattle.centred_steps.specs.Weights.{AreWeightsUpTo}
use Rattle.rate_sweeps.specs.Lengths.{greatest_number, length_at_price}
use Rattle.rate_sweeps.proofs.usage.lengths_of.Given as goal

abbrev pub invariant-loop-price : goal.invariant-loop-price
invariant-loop-price l =
    (length l.lengths.items ≡ l.price-index)
    × AreWeightsUpTo (2 ^ 27) l.lengths.items
    × (l.lengths.items ≡ map (length_at_price (greatest_number l.prices)) (take l.price-index l.prices))
