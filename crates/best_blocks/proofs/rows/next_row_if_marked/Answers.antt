use Rattle.std.proofs.Common.{arith, sym, ◌∙◌}
use Rattle.best_blocks.proofs.rows.next_row_if_marked.Goals as goal

pub next_row-requires-clause-inside : goal.next_row-requires-clause-inside
next_row-requires-clause-inside c = omega (arith, c.requires.node, c.requires.rows.count)

pub next_row-requires-clause-row : goal.next_row-requires-clause-row
next_row-requires-clause-row c = c.requires.rows.each c.args.node c.requires.node (sym c.is_marked.ensures ∙ c.if-is_marked.true)
