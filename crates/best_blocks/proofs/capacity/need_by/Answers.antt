use Rattle.te_model.proofs.WellFormed.{capacities_positive, capacities_small, few_links}
use Rattle.best_blocks.proofs.capacity.need_by.Goals as goal

pub need_within-requires-clause-links : goal.need_within-requires-clause-links
need_within-requires-clause-links c = few_links c.args.net.now c.requires.network

pub need_within-requires-clause-capacities : goal.need_within-requires-clause-capacities
need_within-requires-clause-capacities c = capacities_small c.args.net.now c.requires.network

pub need_within-requires-clause-capacity : goal.need_within-requires-clause-capacity
need_within-requires-clause-capacity c = capacities_positive c.args.net.now c.requires.network c.args.link c.requires.link
