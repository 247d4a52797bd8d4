use Rattle.semi_oblivious.proofs.sweeps.best_mix.Goals as goal

pub returns-clause-state : goal.returns-clause-state
returns-clause-state c = c.better_mix-2.ensures.state
