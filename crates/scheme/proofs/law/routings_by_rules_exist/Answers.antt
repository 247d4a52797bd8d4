use Rattle.scheme.proofs.Existence.{routings_by_rules_exist}
use Rattle.scheme.proofs.law.routings_by_rules_exist.Goals as goal

pub returns : goal.returns
returns g c = routings_by_rules_exist (g.S.PairSplit.splits c.args._rule.now) g.S.PairSplit.limit
