use Rattle.std.proofs.Common.{◌≡◌, ℕ, ◌+◌, ◌<◌, length, take, slice_index, false}
use Rattle.std.specs.Prelude.{slice_index_or}
use Rattle.te_model.specs.Path.{has_number, amount_on}
use Rattle.routing.proofs.loads.add_along.Given as goal

abbrev pub invariant-loop-link : goal.invariant-loop-link
invariant-loop-link l =
    ((e : ℕ) → e < length l.fn.loads → slice_index l.loads e ≡ slice_index l.fn.loads e + amount_on (take l.link-index l.path) l.amount e)
    × ((e : ℕ) → e < length l.fn.marks → slice_index_or l.marks e false ≡ has_number (take l.link-index l.path) e)
