use Rattle.link_bounds.proofs.NeedLaws.{needs_proved, needs_within}
use Rattle.link_bounds.proofs.laws.needs_are_proved.Goals as goal

pub returns-clause-proved : goal.returns-clause-proved
returns-clause-proved c = needs_proved

pub returns-clause-within : goal.returns-clause-within
returns-clause-within c = needs_within
