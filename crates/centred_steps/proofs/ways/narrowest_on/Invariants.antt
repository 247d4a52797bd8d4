use Rattle.std.proofs.Common.{◌≡◌, ◌-◌, ◌^◌, ◌<◌, ◌≤◌, length, min}
use Rattle.te_model.specs.Network.{node_count}
use Rattle.centred_steps.specs.Ways.{least_capacity, way_to}
use Rattle.centred_steps.proofs.ways.narrowest_on.Given as goal

-- what is left of the way has the rest of the links of the whole
abbrev pub invariant-loop : goal.invariant-loop
invariant-loop l =
    (l.node < node_count l.net)
    × (l.least ≤ 2 ^ 32)
    × (min l.least (least_capacity l.net (way_to l.net l.lasts (length l.lasts - l.counter) l.node)) ≡ least_capacity l.net (way_to l.net l.lasts (length l.lasts) l.dst))
