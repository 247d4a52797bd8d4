use Rattle.std.proofs.Common.{slice_index, ap}
use Rattle.flow_sim.specs.Result.{pair_result_of}
use Rattle.te_model.proofs.Choices.{made_more}
use Rattle.flow_sim.proofs.ResultLaws.{lost_read, pair_read}
use Rattle.flow_sim.proofs.simulation.per_pair.Goals as goal

pub loop-p-preserved : goal.loop-p-preserved
loop-p-preserved c =
    made_more (pair_result_of c.args.rates.now c.args.matrix.now.demand (slice_index c.args.delivered.now) (slice_index c.args.lost_full.now)
    (slice_index c.args.lost_failed.now)) c.loop-p.p _ _ _ c.loop-p.invariant c.in_ok-push.ensures.items
    (pair_read c.args.rates.now c.args.matrix.now.demand c.args.delivered.now c.args.lost_full.now c.args.lost_failed.now c.loop-p.p _ c.lost_no_path.result
    (ap (λ xs. slice_index xs c.loop-p.p) c.as_slice-demand.ensures)
    (lost_read c.args.rates.now c.as_slice-routes.result.now c.args.matrix.now.demand c.as_slice-demand.result.now c.loop-p.p c.lost_no_path.result c.index-routes-p.result
    c.as_slice-routes.ensures c.as_slice-demand.ensures c.loop-p-test.true c.index-routes-p.is c.lost_no_path.ensures))
