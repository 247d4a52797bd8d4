use Rattle.std.proofs.Common.{◌≡◌, ◌≤◌, slice_index, nat_lt, ◌&&◌, ◌||◌, ◌==◌}
use Rattle.te_model.specs.Counting.{count_below}
use Rattle.fault_rates.proofs.guard.rank.Given as goal

abbrev pub invariant-loop-j : goal.invariant-loop-j
invariant-loop-j l =
    (l.before
    ≡ count_below l.j (λ j. nat_lt (slice_index l.keys j) (slice_index l.keys l.place)
    || (slice_index l.keys j == slice_index l.keys l.place && nat_lt j l.place)))
    × (l.before ≤ l.j)
