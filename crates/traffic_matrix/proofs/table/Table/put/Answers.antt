use Rattle.std.proofs.lemmas.Result.{on_ok_weaker}
use Rattle.traffic_matrix.proofs.TableLemmas.{put-grown}
use Rattle.traffic_matrix.proofs.table.Table.put.Goals as goal
use Rattle.traffic_matrix.proofs.table.Table.put.Goals.{then-len-step+in_ok-grow, else-len-step}

pub returns-clause-put : goal.returns-clause-put
returns-clause-put c =
    elim c.if-len-step.branch [
      | then-len-step+in_ok-grow w ↦
          on_ok_weaker c.set.result (put-grown c.args.self.now w.grow.new.self c.set.new.self _ c.args.step c.args.pair c.args.demand w.in_ok-grow.ensures) (rw w.self-is at c.set.ensures.put)
      | else-len-step w ↦ rw w.self-is at c.set.ensures.put
    ]
