use Rattle.std.proofs.Common.{◌≡◌, ◌==◌}
use Rattle.te_model.specs.Network.{tail_of}
use Rattle.witness_search.proofs.LinkSums.{capacities_where}
use Rattle.witness_search.proofs.capacities.capacity_from.Given as goal

abbrev pub invariant-loop-link : goal.invariant-loop-link
invariant-loop-link l = l.total ≡ capacities_where l.net (λ h. tail_of l.net h == l.node) l.link-index
