use Rattle.tree_embed.proofs.Only.{tree_path_only}
use Rattle.tree_embed.proofs.law.tree_paths_are_unique.Goals as goal

pub returns : goal.returns
returns c = tree_path_only c.args.tree.now
