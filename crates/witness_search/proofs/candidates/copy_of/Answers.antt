use Rattle.std.proofs.Common.{◌∙◌}
use Rattle.witness_search.proofs.candidates.copy_of.Goals as goal

pub returns : goal.returns
returns c = let same = c.new.ensures ∙ (c.in_ok-copy.ensures.items ∙ c.as_slice.ensures) in λ i. record { demand = same i }
