use Rattle.std.proofs.Common.{◌≡◌, ◌+◌, ℕ, take, slice_index}
use Rattle.te_model.specs.Path.{amount_on}
use Rattle.routing.proofs.decomposition.take_off.Given as goal

abbrev pub invariant-loop-h : goal.invariant-loop-h
invariant-loop-h l = (h : ℕ) → slice_index l.fn.flow h ≡ slice_index l.flow h + amount_on (take l.h-index l.path) l.weight h
