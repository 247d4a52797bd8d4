use Rattle.std.proofs.Common.{length, map, rules}
use Rattle.std.specs.List.{range_with_len}
use Rattle.te_model.proofs.Choices.{made_more}
use Rattle.tree_embed.specs.Tables.{center_of}
use Rattle.tree_embed.proofs.centers.centers_of.Goals as goal

pub loop-level-preserved : goal.loop-level-preserved
loop-level-preserved c =
    made_more (λ level. map (center_of c.args.sums.now c.args.order.now c.args.scale level) (range_with_len 0 (length c.args.sums.now)))
    c.loop-level.level c.in_ok-row.row c.loop-level.rows.items c.push.new.self.items c.loop-level.invariant (search rules) c.in_ok-row.ensures

pub row_of-requires-clause-order : goal.row_of-requires-clause-order
row_of-requires-clause-order c = c.requires.order
