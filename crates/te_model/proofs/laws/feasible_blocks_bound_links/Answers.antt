use Rattle.te_model.proofs.LinkRatios.{feasible_bounds_link, ratios_of_links, greater_link_ratios}
use Rattle.te_model.proofs.laws.feasible_blocks_bound_links.Goals as goal

pub returns-clause-bound : goal.returns-clause-bound
returns-clause-bound c = feasible_bounds_link

pub returns-clause-all : goal.returns-clause-all
returns-clause-all c = ratios_of_links

pub returns-clause-greater : goal.returns-clause-greater
returns-clause-greater c = greater_link_ratios
