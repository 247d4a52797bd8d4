use Rattle.std.proofs.Common.{◌≡◌, drop, find}
use Rattle.tree_embed.specs.Tables.{is_within}
use Rattle.tree_embed.proofs.centers.first_within.Given as goal

abbrev pub invariant-loop-u : goal.invariant-loop-u
invariant-loop-u l = find (λ u. is_within l.sums l.radius u l.node) l.order ≡ find (λ u. is_within l.sums l.radius u l.node) (drop l.u-index l.order)
