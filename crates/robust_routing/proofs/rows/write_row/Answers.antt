use Rattle.centred_steps.proofs.Weights.{weights_small}
use Rattle.shortest_path.proofs.Sound.{sound}
use Rattle.robust_routing.proofs.rows.write_row.Goals as goal

pub distances-requires-clause-sound : goal.distances-requires-clause-sound
distances-requires-clause-sound c = sound c.args.net.now c.requires.network

pub distances-requires-clause-limit : goal.distances-requires-clause-limit
distances-requires-clause-limit c = weights_small c.args.weights.now c.requires.weights.limits
