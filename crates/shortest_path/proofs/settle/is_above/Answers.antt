use Rattle.std.proofs.Common.{sym, subst}
use Rattle.shortest_path.specs.Graph.{AtMost}
use Rattle.shortest_path.proofs.settle.is_above.Goals as goal

pub returns-in-None : goal.returns-in-None
returns-in-None c = subst (λ o. AtMost o c.args.reach → ⊥) (sym c.in-None.is) (λ above. above)
