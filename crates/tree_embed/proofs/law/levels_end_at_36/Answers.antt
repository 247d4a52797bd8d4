use Rattle.std.proofs.Common.{refl}
use Rattle.tree_embed.proofs.law.levels_end_at_36.Goals as goal

pub returns : goal.returns
returns c = refl
