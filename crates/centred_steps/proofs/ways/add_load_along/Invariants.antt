use Rattle.std.proofs.Common.{◌≡◌, ℕ, ◌+◌, ◌-◌, ◌*◌, ◌^◌, ◌<◌, length, min, slice_index}
use Rattle.te_model.specs.Network.{node_count}
use Rattle.centred_steps.specs.Loads.{AreSmall, times_on}
use Rattle.centred_steps.specs.Ways.{way_to}
use Rattle.centred_steps.proofs.ways.add_load_along.Given as goal

-- what is left of the way puts on the links what is left to be added
abbrev pub invariant-loop : goal.invariant-loop
invariant-loop l =
    (l.node < node_count l.net)
    × AreSmall l.loads
    × ((e : ℕ) → e < length l.fn.loads →
    min (2 ^ 66) (slice_index l.loads e + l.amount * times_on (way_to l.net l.lasts (length l.lasts - l.counter) l.node) e)
    ≡ min (2 ^ 66) (slice_index l.fn.loads e + l.amount * times_on (way_to l.net l.lasts (length l.lasts) l.dst) e))
