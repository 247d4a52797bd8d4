use Rattle.traffic_matrix.proofs.generator.matrix_words.Goals as goal

pub returns : goal.returns
returns c = c.generator_of.ensures
