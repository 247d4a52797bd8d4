use Rattle.link_bounds.proofs.SharesOn.{has_share_found}
use Rattle.link_bounds.proofs.needs.has_share.Goals as goal

pub returns : goal.returns
returns c = λ routes e are. has_share_found routes e c.first_share.result c.is_some.result (c.first_share.ensures routes e are) c.is_some.ensures
