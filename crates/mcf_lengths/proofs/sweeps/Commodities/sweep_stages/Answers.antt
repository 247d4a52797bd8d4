use Rattle.shortest_path.proofs.Sound.{sound}
use Rattle.mcf_lengths.proofs.sweeps.Commodities.sweep_stages.Goals as goal

pub with_orders-requires : goal.with_orders-requires
with_orders-requires c = sound c.args.self.now.net.now c.requires.commodities.network
