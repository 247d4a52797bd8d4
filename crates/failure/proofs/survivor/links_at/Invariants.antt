use Rattle.std.proofs.Common.{◌≡◌, map, take}
use Rattle.te_model.specs.Network.{link_at}
use Rattle.failure.proofs.survivor.links_at.Given as goal

abbrev pub invariant-loop-number : goal.invariant-loop-number
invariant-loop-number l = (l.kept.items ≡ map (link_at l.net) (take l.number-index l.numbers)) × (l.links ≡ l.net.links)
