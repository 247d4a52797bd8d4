use Rattle.std.proofs.Common.{◌≡◌, ℕ, ◌<◌, [], length, replicate, slice_index}
use Rattle.std.specs.Prelude.{slice_index_or}
use Rattle.te_model.specs.Path.{routes_at}
use Rattle.fault_rates.proofs.maker.all_allocations.Given as goal

abbrev pub invariant-loop-p : goal.invariant-loop-p
invariant-loop-p l =
    (length l.lists.items ≡ l.p)
    × ((q : ℕ) → q < l.p → slice_index_or l.lists.items q [] ≡ replicate (length (routes_at l.routes q).paths) (slice_index l.even q))
