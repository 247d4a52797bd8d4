use Rattle.centred_steps.specs.Loads.{AreSmall}
use Rattle.centred_steps.specs.Ways.{AreLastLinks}
use Rattle.ratio_certificate.proofs.response.Pricing.add_between.Given as goal

abbrev pub invariant-loop-p : goal.invariant-loop-p
invariant-loop-p l = AreLastLinks l.self.problem.net.now l.ways.lasts.items × AreSmall l.loads
