use Rattle.traffic_matrix.proofs.demands.Demands.accept.Goals as goal

pub returns-then-is_some-clause-accepted : goal.returns-then-is_some-clause-accepted
returns-then-is_some-clause-accepted c = tt
