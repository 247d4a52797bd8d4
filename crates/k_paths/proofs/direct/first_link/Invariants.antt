use Rattle.std.proofs.Common.{◌-◌}
use Rattle.te_model.specs.Network.{link_count}
use Rattle.k_paths.proofs.LinkRows.{IsScanned}
use Rattle.k_paths.proofs.direct.first_link.Given as goal

abbrev pub invariant-loop-link : goal.invariant-loop-link
invariant-loop-link l = IsScanned l.net l.ways l.src l.prefix l.excluded l.node l.link l.best

abbrev pub decreases-loop-link : goal.decreases-loop-link
decreases-loop-link l = link_count l.net - l.link
