use Rattle.std.proofs.Common.{◌≤◌, ◌++◌, arith, rules}
use Rattle.tree_embed.specs.Chains.{centers_down}
use Rattle.tree_embed.specs.Tables.{center_in}
use Rattle.tree_embed.proofs.Levels.{descend_more}
use Rattle.tree_embed.proofs.chain.descend.Goals as goal

pub loop-level-preserved : goal.loop-level-preserved
loop-level-preserved c =
    let some : 2 ≤ c.loop-level.level = omega arith in
    descend_more (center_in c.args.centers.now) c.args.node c.loop-level.level c.center_in.result
    (c.args.stops.now.items ++ centers_down (center_in c.args.centers.now) c.args.node c.args.top) c.loop-level.stops.items c.push.new.self.items some
    c.loop-level.invariant c.center_in.ensures (search rules)
