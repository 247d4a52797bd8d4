use Rattle.std.proofs.Common.{◌≡◌, ◌-◌, ◌<◌, ◌++◌, length}
use Rattle.std.specs.Prelude.{All}
use Rattle.te_model.specs.Network.{link_count, node_count}
use Rattle.centred_steps.specs.Ways.{way_to}
use Rattle.kept_ways.proofs.links.links_to.Given as goal

-- the links so far, and then those that are left
abbrev pub invariant-loop : goal.invariant-loop
invariant-loop l =
    (l.node < node_count l.net)
    × All (λ h. h < link_count l.net) l.way.items
    × (l.way.items ++ way_to l.net l.lasts (length l.lasts - l.counter) l.node ≡ way_to l.net l.lasts (length l.lasts) l.dst)
