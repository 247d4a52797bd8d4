use Rattle.std.proofs.Common.{length, sym, subst}
use Rattle.te_model.specs.declared.demand.Matrix.{Matrix}
use Rattle.te_model.specs.Network.{node_count}
use Rattle.te_model.specs.Pairs.{AreDemands}
use Rattle.traffic_matrix.proofs.FirstMatrix.{first_demands}
use Rattle.te_model.proofs.ValidHeads.{head_routing}
use Rattle.ratio_checker.proofs.FormedHeads.{head_formed}
use Rattle.routing_commands.proofs.CheckingRates.{rates_small}
use Rattle.routing_commands.proofs.HeadCounts.{head_has_few_pairs, head_has_few_paths}
use Rattle.routing_commands.proofs.check_rates.check_under.Goals as goal

pub check_rates_text-requires-clause-network : goal.check_rates_text-requires-clause-network
check_rates_text-requires-clause-network c = head_formed c.args.head.now c.requires.head

pub check_rates_text-requires-clause-routing : goal.check_rates_text-requires-clause-routing
check_rates_text-requires-clause-routing c = head_routing c.args.head.now c.requires.head

pub check_rates_text-requires-clause-few : goal.check_rates_text-requires-clause-few
check_rates_text-requires-clause-few c = head_has_few_paths c.args.head.now c.requires.head

pub check_rates_text-requires-clause-count : goal.check_rates_text-requires-clause-count
check_rates_text-requires-clause-count c = head_has_few_pairs c.args.head.now c.requires.head

pub check_rates_text-requires-clause-demands : goal.check_rates_text-requires-clause-demands
check_rates_text-requires-clause-demands c =
    let series = c.args.series.now in
    subst (λ (m : Matrix). AreDemands (length series.pairs.list) m.demand) (sym c.in_ok-matrix.ensures)
    (first_demands (node_count c.args.head.now.network) series c.requires.series)

pub answer_of-requires : goal.answer_of-requires
answer_of-requires c = rates_small c.args.head.now _ _ c.args.plan.now _ _ c.in_ok-status.ensures
