use Rattle.centred_steps.specs.Loads.{AreSmall}
use Rattle.centred_steps.specs.Ways.{AreLastLinks}
use Rattle.ratio_certificate.proofs.response.Pricing.add_dearest.Given as goal

abbrev pub invariant-loop-entry : goal.invariant-loop-entry
invariant-loop-entry l = AreLastLinks l.self.problem.net.now l.ways.lasts.items × AreSmall l.loads
