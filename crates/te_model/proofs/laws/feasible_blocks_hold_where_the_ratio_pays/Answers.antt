use Rattle.te_model.proofs.FeasibleBlocks.{feasible_or_fails, holds_where_pays}
use Rattle.te_model.proofs.laws.feasible_blocks_hold_where_the_ratio_pays.Goals as goal

pub returns-clause-none : goal.returns-clause-none
returns-clause-none c = feasible_or_fails

pub returns-clause-holds : goal.returns-clause-holds
returns-clause-holds c = holds_where_pays
