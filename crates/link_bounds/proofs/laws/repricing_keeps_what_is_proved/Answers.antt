use Rattle.link_bounds.proofs.RepricedHolds.{failures_kept, last_counts, ratio_lowered, repriced_holds}
use Rattle.link_bounds.proofs.RepricedValid.{repriced_valid}
use Rattle.link_bounds.proofs.laws.repricing_keeps_what_is_proved.Goals as goal

pub returns-clause-valid : goal.returns-clause-valid
returns-clause-valid c = repriced_valid

pub returns-clause-failures : goal.returns-clause-failures
returns-clause-failures c = failures_kept

pub returns-clause-holds : goal.returns-clause-holds
returns-clause-holds c = repriced_holds

pub returns-clause-lowers : goal.returns-clause-lowers
returns-clause-lowers c = ratio_lowered

pub returns-clause-last : goal.returns-clause-last
returns-clause-last c = last_counts
