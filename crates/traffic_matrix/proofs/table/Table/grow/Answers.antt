use Rattle.std.proofs.Common.{refl, arith}
use Rattle.traffic_matrix.proofs.TableLemmas.{grown-more}
use Rattle.traffic_matrix.proofs.table.Table.grow.Goals as goal

pub loop-step-preserved : goal.loop-step-preserved
loop-step-preserved c =
    let before = c.loop-step.invariant.steps in
    let one = c.in_ok-push.ensures.len in
    grown-more c.args.self.now c.loop-step.self _ c.new.result c.loop-step._step c.loop-step.invariant refl refl c.in_ok-push.ensures.items (omega arith) c.new.ensures
