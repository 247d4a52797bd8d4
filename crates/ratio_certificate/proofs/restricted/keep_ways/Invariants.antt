use Rattle.centred_steps.specs.Ways.{AreLastLinks}
use Rattle.ratio_certificate.specs.Restricted.{AreWaysOf}
use Rattle.ratio_certificate.proofs.restricted.keep_ways.Given as goal

abbrev pub invariant-loop-i : goal.invariant-loop-i
invariant-loop-i l = AreLastLinks l.problem.net.now l.ways.lasts.items × AreWaysOf l.problem.net.now l.shared l.kept
