use Rattle.tree_embed.proofs.Existence.{tree_paths_exist}
use Rattle.tree_embed.proofs.law.tree_paths_exist.Goals as goal

pub returns : goal.returns
returns c = tree_paths_exist
