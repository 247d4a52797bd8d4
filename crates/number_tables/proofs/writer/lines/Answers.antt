use Rattle.std.proofs.Common.{◌++◌, ◌∷◌, []}
use Rattle.cert_text.proofs.PrintLemmas.{one_more}
use Rattle.te_model.proofs.Lists.{all_put}
use Rattle.number_tables.specs.Table.{line_text}
use Rattle.number_tables.proofs.writer.lines.Goals as goal

pub loop-next-preserved : goal.loop-next-preserved
loop-next-preserved c = one_more (λ k. line_text k ++ 10 ∷ []) _ _ _ c.args.list.now c.loop-next.next-index c.next-item.result c.loop-next-test.true c.next-item.is c.loop-next.invariant c.in_ok-print_line.ensures

pub returns : goal.returns
returns c = all_put (λ k. line_text k ++ 10 ∷ []) _ _ c.args.list.now c.loop-next.next-index c.loop-next-test.false c.loop-next.invariant
