use Rattle.std.proofs.Common.{◌∷◌}
use Rattle.cert_text.proofs.PrintLemmas.{one_more}
use Rattle.te_model.proofs.Lists.{all_put}
use Rattle.cert_text.proofs.printing.spaced_all.Goals as goal

pub loop-n-preserved : goal.loop-n-preserved
loop-n-preserved g c = one_more (λ n. 32 ∷ g.I.Integer.text n) _ _ _ c.args.list.now c.loop-n.n-index c.n-item.result c.loop-n-test.true c.n-item.is c.loop-n.invariant c.in_ok-spaced.ensures

pub returns : goal.returns
returns g c = all_put (λ n. 32 ∷ g.I.Integer.text n) _ _ c.args.list.now c.loop-n.n-index c.loop-n-test.false c.loop-n.invariant
