use Rattle.cert_text.proofs.Taking.{HasTaken}
use Rattle.cert_text.proofs.item.many.Given as goal

abbrev pub invariant-loop : goal.invariant-loop
invariant-loop g l = HasTaken (g.T.Item.Fits l.item) (g.T.Item.reading l.item) l.count l.counter l.items.items l.fn.r l.r
