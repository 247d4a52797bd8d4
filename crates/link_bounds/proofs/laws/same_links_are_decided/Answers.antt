use Rattle.link_bounds.proofs.SameLinks.{same_links_decided}
use Rattle.link_bounds.proofs.laws.same_links_are_decided.Goals as goal

pub returns : goal.returns
returns c = same_links_decided
