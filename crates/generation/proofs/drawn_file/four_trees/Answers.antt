use Rattle.std.proofs.Common.{refl}
use Rattle.generation.proofs.drawn_file.four_trees.Goals as goal

pub returns-clause-seed : goal.returns-clause-seed
returns-clause-seed c = refl
