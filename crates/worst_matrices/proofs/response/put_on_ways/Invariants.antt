use Rattle.centred_steps.specs.Loads.{AreSmall}
use Rattle.centred_steps.specs.Ways.{AreLastLinks}
use Rattle.worst_matrices.proofs.response.put_on_ways.Given as goal

abbrev pub invariant-loop-p : goal.invariant-loop-p
invariant-loop-p l = AreLastLinks l.usage.net.now l.ways.lasts.items × AreSmall l.loads
