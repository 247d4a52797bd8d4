use Rattle.random_network.proofs.Connected.{drawn_networks_are_formed}
use Rattle.random_network.proofs.law.drawn_networks_are_formed.Goals as goal

pub returns : goal.returns
returns c = drawn_networks_are_formed
