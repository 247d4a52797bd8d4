use Rattle.shortest_path.proofs.Sound.{sound}
use Rattle.k_paths.proofs.least.k_least_by.Goals as goal

pub outgoing_links-requires : goal.outgoing_links-requires
outgoing_links-requires c = sound c.args.net.now c.requires.network
