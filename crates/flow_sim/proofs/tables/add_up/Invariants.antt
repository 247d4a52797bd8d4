use Rattle.std.proofs.Common.{◌≡◌, ◌+◌, ◌<◌, ℕ, slice_index, length}
use Rattle.te_model.specs.Counting.{sum_below}
use Rattle.flow_sim.specs.Tables.{amount_of_key}
use Rattle.flow_sim.proofs.tables.add_up.Given as goal

abbrev pub invariant-loop-f : goal.invariant-loop-f
invariant-loop-f l =
    (e : ℕ) → e < length l.totals → slice_index l.totals e ≡ slice_index l.initial.totals e + sum_below l.f (amount_of_key l.keys l.amounts e)
