use Rattle.std.proofs.lemmas.List.{get_or-set_same}
use Rattle.flow_sim.proofs.serve.take_off.Goals as goal

pub returns-clause-taken : goal.returns-clause-taken
returns-clause-taken c = get_or-set_same c.args.left.now c.args.link _ 0 c.requires.link
