use Rattle.traffic_matrix.specs.Pairs.{place_of_pair}
use Rattle.traffic_matrix.proofs.TableLemmas.{demand-other}
use Rattle.traffic_matrix.proofs.table.Table.forget.Goals as goal

pub returns-clause-others : goal.returns-clause-others
returns-clause-others c =
    let old = c.args.self.now in
    λ other pair apart. demand-other old.steps.items c.new.result c.args.step other (place_of_pair old.nodes pair) apart
