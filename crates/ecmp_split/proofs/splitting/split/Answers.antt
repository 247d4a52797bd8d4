use Rattle.shortest_path.proofs.Sound.{sound}
use Rattle.ecmp_split.proofs.splitting.split.Goals as goal

pub new-requires : goal.new-requires
new-requires c = sound c.args.net.now c.requires.network

pub split_by-requires-clause-hops : goal.split_by-requires-clause-hops
split_by-requires-clause-hops c = c.in_ok-hops.ensures.hops
