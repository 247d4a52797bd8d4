use Rattle.std.proofs.Common.{ℕ, List, take}
use Rattle.tree_embed.specs.Tables.{LeadBetween}
use Rattle.tree_embed.specs.TreePaths.{AreJoined}
use Rattle.tree_embed.proofs.join.join.Given as goal

abbrev pub invariant-loop-i : goal.invariant-loop-i
invariant-loop-i l =
    (lengths : List ℕ) → LeadBetween l.net lengths l.sums l.firsts → AreJoined l.net lengths (take l.i l.chain) l.walk.items
