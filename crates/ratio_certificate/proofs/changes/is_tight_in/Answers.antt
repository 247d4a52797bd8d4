use Rattle.std.proofs.Common.{arith}
use Rattle.te_model.proofs.WellFormed.{links_join}
use Rattle.ratio_certificate.proofs.changes.is_tight_in.Goals as goal

pub bounds-row-head : goal.bounds-row-head
bounds-row-head c = rw c.as_slice.ensures (omega (arith, (links_join c.args.net.now c.requires.network c.args.link c.requires.link).1, c.requires.row))

pub bounds-row-tail : goal.bounds-row-tail
bounds-row-tail c = rw c.as_slice.ensures (omega (arith, (links_join c.args.net.now c.requires.network c.args.link c.requires.link).0, c.requires.row))
