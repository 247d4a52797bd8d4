use Rattle.std.proofs.Common.{◌∙◌}
use Rattle.traffic_matrix.proofs.NodeLemmas.{number-of-key}
use Rattle.traffic_matrix.proofs.nodes.Nodes.find.Goals as goal

pub returns-clause-number : goal.returns-clause-number
returns-clause-number c = c.get_index_of.ensures.index ∙ rw (← c.self.view_is) (number-of-key c.args.name.now c.self.inside.names.keys)
