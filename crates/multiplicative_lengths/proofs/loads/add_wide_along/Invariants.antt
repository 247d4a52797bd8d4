use Rattle.std.proofs.Common.{◌≡◌, ℕ, ◌+◌, take, slice_index}
use Rattle.te_model.specs.Path.{amount_on}
use Rattle.multiplicative_lengths.proofs.loads.add_wide_along.Given as goal

abbrev pub invariant-loop-link : goal.invariant-loop-link
invariant-loop-link l = (e : ℕ) → slice_index l.loads e ≡ slice_index l.fn.loads e + amount_on (take l.link-index l.links) l.amount e
