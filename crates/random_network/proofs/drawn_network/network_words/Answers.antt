use Rattle.random_network.proofs.drawn_network.network_words.Goals as goal

pub returns : goal.returns
returns c = c.generator_of.ensures
