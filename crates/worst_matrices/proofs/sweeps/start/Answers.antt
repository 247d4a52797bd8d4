use Rattle.shortest_path.proofs.Sound.{sound}
use Rattle.worst_matrices.proofs.sweeps.start.Goals as goal

pub with_orders-requires : goal.with_orders-requires
with_orders-requires c = sound c.args.usage.now.net.now c.requires.usage.network
