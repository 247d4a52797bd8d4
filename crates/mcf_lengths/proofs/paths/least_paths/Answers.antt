use Rattle.shortest_path.proofs.Sound.{sound}
use Rattle.mcf_lengths.proofs.paths.least_paths.Goals as goal

pub new-requires : goal.new-requires
new-requires c = sound c.args.net.now c.requires.network

pub least_paths_with-requires-clause-limit : goal.least_paths_with-requires-clause-limit
least_paths_with-requires-clause-limit c = c.requires.limit

pub least_paths_with-requires-clause-positive : goal.least_paths_with-requires-clause-positive
least_paths_with-requires-clause-positive c = c.requires.positive
