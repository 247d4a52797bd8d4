use Rattle.te_model.proofs.WellFormed.{capacities_small}
use Rattle.dual_bounds.proofs.dual.bracket_by.Goals as goal

pub capacity_by-requires-clause-capacities : goal.capacity_by-requires-clause-capacities
capacity_by-requires-clause-capacities c = capacities_small c.args.net.now c.requires.network
