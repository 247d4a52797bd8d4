use Rattle.std.proofs.Common.{refl}
use Rattle.traffic_matrix.proofs.DemandLemmas.{shows-more}
use Rattle.traffic_matrix.proofs.demands.Demands.put.Goals as goal

pub returns-clause-shows : goal.returns-clause-shows
returns-clause-shows c = λ entries s. shows-more entries c.args.entry c.args.self.now _ c.in_ok-put.ensures.put c.in_ok-put.ensures.steps refl s
