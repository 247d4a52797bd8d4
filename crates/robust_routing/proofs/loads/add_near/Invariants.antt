use Rattle.centred_steps.specs.Loads.{AreLoadsWithin}
use Rattle.centred_steps.specs.Ways.{AreLastLinks}
use Rattle.robust_routing.specs.Near.{AreLoadsNear}
use Rattle.robust_routing.proofs.loads.add_near.Given as goal

abbrev pub invariant-loop-p : goal.invariant-loop-p
invariant-loop-p l =
    AreLastLinks l.round.net.now l.lasts
    × AreLoadsWithin l.round.net.now l.loads
    × AreLoadsNear l.round l.shares l.quotients l.link l.greatest l.fn.loads l.p l.loads
