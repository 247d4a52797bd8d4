use Rattle.te_model.proofs.WellFormed.{capacities_small}
use Rattle.robust_routing.proofs.links.factor_of.Goals as goal

pub capacity_by-requires-clause-capacities : goal.capacity_by-requires-clause-capacities
capacity_by-requires-clause-capacities c = capacities_small c.args.net.now c.requires.network
