use Rattle.cert_text.proofs.PrintLemmas.{one_more}
use Rattle.te_model.proofs.Lists.{all_put}
use Rattle.cert_text.proofs.printing.each.Goals as goal

pub loop-item-preserved : goal.loop-item-preserved
loop-item-preserved g c = one_more g.T.Lines.text _ _ _ c.args.items.now c.loop-item.item-index c.item-item.result c.loop-item-test.true c.item-item.is c.loop-item.invariant c.in_ok-put.ensures

pub returns : goal.returns
returns g c = all_put g.T.Lines.text _ _ c.args.items.now c.loop-item.item-index c.loop-item-test.false c.loop-item.invariant
