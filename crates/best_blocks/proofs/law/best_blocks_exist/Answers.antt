use Rattle.best_blocks.proofs.BlocksExist.{best_blocks_exist}
use Rattle.best_blocks.proofs.law.best_blocks_exist.Goals as goal

pub returns : goal.returns
returns c = best_blocks_exist
