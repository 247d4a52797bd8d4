use Rattle.std.proofs.Common.{rules}
use Rattle.random_words.proofs.generator.generator_of.Goals as goal

pub returns : goal.returns
returns c = search rules
