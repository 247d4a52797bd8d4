use Rattle.std.proofs.Common.{refl}
use Rattle.cert_text.proofs.SmallMargins.{small_margin}
use Rattle.cert_text.proofs.upgrading.upgrade.Goals as goal

pub box_of-requires : goal.box_of-requires
box_of-requires c = small_margin c.args.cert c.requires

pub returns : goal.returns
returns c = rw c.in_ok-set.ensures refl
