use Rattle.std.proofs.Common.{length}
use Rattle.ecmp_split.proofs.Sharing.{IsSharing}
use Rattle.ecmp_split.proofs.splitting.share_out.Given as goal

abbrev pub invariant-loop-next : goal.invariant-loop-next
invariant-loop-next l = IsSharing l.net l.hops.costs l.src l.waiting.items l.flow.items l.arrived.items

abbrev pub decreases-loop-next : goal.decreases-loop-next
decreases-loop-next l = length l.waiting.items
