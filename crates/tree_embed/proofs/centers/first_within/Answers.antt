use Rattle.std.proofs.Common.{sym, ◌∙◌}
use Rattle.tree_embed.specs.Tables.{is_within}
use Rattle.tree_embed.proofs.Firsts.{found_here}
use Rattle.tree_embed.proofs.centers.first_within.Goals as goal

pub is_within-requires-clause-u : goal.is_within-requires-clause-u
is_within-requires-clause-u c = c.requires.order c.loop-u.u-index 0 c.loop-u-test.true

pub returns-then-is_within : goal.returns-then-is_within
returns-then-is_within c =
    found_here (λ u. is_within c.args.sums.now c.args.radius u c.args.node) c.args.order.now c.loop-u.u-index c.loop-u.invariant c.loop-u-test.true
    (sym c.is_within.ensures ∙ c.if-is_within.true)
