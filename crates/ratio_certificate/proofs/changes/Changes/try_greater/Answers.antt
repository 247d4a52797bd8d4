use Rattle.ratio_certificate.proofs.CriticalLinks.{greater_helps_not}
use Rattle.ratio_certificate.proofs.changes.Changes.try_greater.Goals as goal

pub returns-else-is_critical-clause-none : goal.returns-else-is_critical-clause-none
returns-else-is_critical-clause-none c =
    greater_helps_not c.args.self.now c.args.link c.args.weight c.requires.changes c.requires.link c.requires.weight.0 (c.is_critical.ensures.none c.if-is_critical.false)
