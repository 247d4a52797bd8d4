use Rattle.std.proofs.Common.{◌≤◌, arith, rules}
use Rattle.tree_embed.specs.Tables.{center_in}
use Rattle.tree_embed.proofs.Levels.{climb_more}
use Rattle.tree_embed.proofs.chain.climb.Goals as goal

pub loop-level-preserved : goal.loop-level-preserved
loop-level-preserved c =
    let some : 1 ≤ c.loop-level.level = omega arith in
    climb_more (center_in c.args.centers.now) c.args.node c.loop-level.level c.center_in.result c.args.stops.now.items c.loop-level.stops.items
    c.push.new.self.items some c.loop-level.invariant c.center_in.ensures (search rules)

pub center_in-requires-clause-table : goal.center_in-requires-clause-table
center_in-requires-clause-table c = c.requires.table
