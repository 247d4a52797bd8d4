use Rattle.witness_search.proofs.Existence.{attacks_exist}
use Rattle.witness_search.proofs.laws.attacks_exist.Goals as goal

pub returns : goal.returns
returns g c = attacks_exist (g.S.Scheme.is_plan c.args._rival.now) (g.S.Scheme.relates c.args._rival.now)
