use Rattle.racke_mix.proofs.rounds.words_of.Goals as goal

pub returns : goal.returns
returns c = c.generator_of.ensures
