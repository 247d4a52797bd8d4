use Rattle.std.proofs.Common.{sym, subst}
use Rattle.series_simulation.specs.SurvivorPreparation.{AreKept}
use Rattle.series_simulation.proofs.KeptPreparations.{none_kept}
use Rattle.series_simulation.proofs.series_rows.step_of.Goals as goal

pub step_keeping-requires-clause-input : goal.step_keeping-requires-clause-input
step_keeping-requires-clause-input g c = record {
  traffic = c.requires.traffic;
  marks = c.requires.marks;
  tells = c.requires.tells;
  planned = c.requires.planned;
  step = c.requires.step;
}

pub step_keeping-requires-clause-kept : goal.step_keeping-requires-clause-kept
step_keeping-requires-clause-kept g c =
    subst (AreKept (g.S.Scheme.is_plan c.args.scheme.now) c.args.net.now c.args.traffic.now.sent.pairs.list) (sym c.new-kept.ensures.items)
    (none_kept (g.S.Scheme.is_plan c.args.scheme.now) c.args.net.now c.args.traffic.now.sent.pairs.list)
