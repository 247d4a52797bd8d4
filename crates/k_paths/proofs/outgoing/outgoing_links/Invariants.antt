use Rattle.std.proofs.Common.{◌≤◌}
use Rattle.te_model.specs.Network.{link_count}
use Rattle.k_paths.specs.Outgoing.{AreOutgoingFrom}
use Rattle.k_paths.proofs.outgoing.outgoing_links.Given as goal

abbrev pub invariant-loop-h : goal.invariant-loop-h
invariant-loop-h l = (l.h ≤ link_count l.net) × AreOutgoingFrom l.net l.h l.firsts.items l.nexts.items

abbrev pub decreases-loop-h : goal.decreases-loop-h
decreases-loop-h l = l.h
