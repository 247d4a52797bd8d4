use Rattle.std.proofs.Common.{◌≡◌, ℕ, length, map, arith, ap, ◌∙◌, rules}
use Rattle.std.specs.List.{range_with_len}
use Rattle.te_model.proofs.Choices.{made_more}
use Rattle.tree_embed.specs.Tables.{center_of}
use Rattle.tree_embed.proofs.centers.row_of.Goals as goal

pub loop-node-preserved : goal.loop-node-preserved
loop-node-preserved c =
    made_more (center_of c.args.sums.now c.args.order.now c.args.scale c.args.level) c.loop-node.node c.center_of.result
    c.loop-node.row.items c.push.new.self.items c.loop-node.invariant (search rules) c.center_of.ensures

pub center_of-requires-clause-order : goal.center_of-requires-clause-order
center_of-requires-clause-order c = c.requires.order

pub returns : goal.returns
returns c =
    let done : c.loop-node.node ≡ length c.args.sums.now = omega (arith, c.loop-node-test.false, c.loop-node.auto.node-end) in
    c.new.ensures ∙ (c.loop-node.invariant
    ∙ ap (λ (n : ℕ). map (center_of c.args.sums.now c.args.order.now c.args.scale c.args.level) (range_with_len 0 n)) done)
