use Rattle.centred_steps.specs.Ways.{AreLastLinks}
use Rattle.centred_steps.proofs.ways.last_links.Given as goal

abbrev pub invariant-loop-h : goal.invariant-loop-h
invariant-loop-h l = AreLastLinks l.net l.lasts
