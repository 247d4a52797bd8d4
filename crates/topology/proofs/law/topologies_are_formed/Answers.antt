use Rattle.topology.proofs.SoundLemmas.{topologies_are_formed}
use Rattle.topology.proofs.law.topologies_are_formed.Goals as goal

pub returns : goal.returns
returns c = topologies_are_formed
