use Rattle.std.proofs.Common.{length, sym, subst}
use Rattle.te_model.specs.declared.demand.Matrix.{Matrix}
use Rattle.te_model.specs.Network.{node_count}
use Rattle.te_model.specs.Pairs.{AreDemands}
use Rattle.traffic_matrix.proofs.FirstMatrix.{first_demands}
use Rattle.te_model.proofs.ValidHeads.{head_routing}
use Rattle.ratio_checker.proofs.FormedHeads.{head_formed}
use Rattle.routing_commands.proofs.HeadCounts.{head_has_few_pairs, head_has_few_paths}
use Rattle.routing_commands.proofs.Protecting.{protection_small}
use Rattle.routing_commands.proofs.protect.protect_under.Goals as goal

pub protect_text-requires-clause-network : goal.protect_text-requires-clause-network
protect_text-requires-clause-network c = head_formed c.args.head.now c.requires.head

pub protect_text-requires-clause-routing : goal.protect_text-requires-clause-routing
protect_text-requires-clause-routing c = head_routing c.args.head.now c.requires.head

pub protect_text-requires-clause-few : goal.protect_text-requires-clause-few
protect_text-requires-clause-few c = head_has_few_paths c.args.head.now c.requires.head

pub protect_text-requires-clause-count : goal.protect_text-requires-clause-count
protect_text-requires-clause-count c = head_has_few_pairs c.args.head.now c.requires.head

pub protect_text-requires-clause-demands : goal.protect_text-requires-clause-demands
protect_text-requires-clause-demands c =
    let series = c.args.series.now in
    subst (λ (m : Matrix). AreDemands (length series.pairs.list) m.demand) (sym c.in_ok-matrix.ensures)
    (first_demands (node_count c.args.head.now.network) series c.requires.series)

pub answer_of-requires : goal.answer_of-requires
answer_of-requires c = protection_small c.args.head.now _ _ _ _ _ c.in_ok-status.ensures
