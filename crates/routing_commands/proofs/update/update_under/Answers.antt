use Rattle.std.proofs.Common.{length, sym, subst}
use Rattle.te_model.specs.declared.demand.Matrix.{Matrix}
use Rattle.te_model.specs.Network.{node_count}
use Rattle.te_model.specs.Pairs.{AreDemands}
use Rattle.traffic_matrix.proofs.FirstMatrix.{first_demands}
use Rattle.te_model.proofs.ValidHeads.{head_routing}
use Rattle.routing_commands.proofs.update.update_under.Goals as goal

pub update_text-requires-clause-old : goal.update_text-requires-clause-old
update_text-requires-clause-old c = head_routing c.args.before.now c.requires.before

pub update_text-requires-clause-new : goal.update_text-requires-clause-new
update_text-requires-clause-new c = head_routing c.args.after.now c.requires.after

pub update_text-requires-clause-demands : goal.update_text-requires-clause-demands
update_text-requires-clause-demands c =
    let series = c.args.series.now in
    subst (λ (m : Matrix). AreDemands (length series.pairs.list) m.demand) (sym c.in_ok-matrix.ensures)
    (first_demands (node_count c.args.before.now.network) series c.requires.series)
