use Rattle.cover_search.proofs.Values.{settled_value}
use Rattle.cover_search.proofs.laws.settled_covers_come_to_amounts.Goals as goal

pub returns : goal.returns
returns c = settled_value
