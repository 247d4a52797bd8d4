use Rattle.std.proofs.Common.{refl}
use Rattle.block_reader.proofs.blocks.Blocks.count.Goals as goal

pub returns-clause-before : goal.returns-clause-before
returns-clause-before c = refl
