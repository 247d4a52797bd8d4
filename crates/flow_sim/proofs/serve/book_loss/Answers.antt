use Rattle.std.proofs.lemmas.List.{get_or-set_same}
use Rattle.flow_sim.proofs.serve.book_loss.Goals as goal

pub returns-clause-served : goal.returns-clause-served
returns-clause-served c = get_or-set_same c.args.units.now c.args.flow _ 0 c.requires.flow.0
