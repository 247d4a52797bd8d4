use Rattle.number_tables.proofs.FirstRules.{search_finds_first_rule}
use Rattle.number_tables.proofs.laws.search_finds_first_rule.Goals as goal

pub returns : goal.returns
returns c = search_finds_first_rule
