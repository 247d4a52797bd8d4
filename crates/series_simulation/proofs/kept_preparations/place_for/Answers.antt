use Rattle.std.proofs.Common.{subst, sym}
use Rattle.series_simulation.specs.SurvivorPreparation.{AreKept}
use Rattle.series_simulation.proofs.KeptPreparations.{added}
use Rattle.series_simulation.proofs.kept_preparations.place_for.Goals as goal

pub returns-clause-kept : goal.returns-clause-kept
returns-clause-kept g c =
    subst (AreKept (g.S.Scheme.is_plan c.args.scheme.now) c.args.net.now c.args.pairs.now.list) (sym c.in_ok-push.ensures.items)
    (added (g.S.Scheme.is_plan c.args.scheme.now) c.args.net.now c.args.pairs.now.list c.args.kept.now.items c.make_room.new.kept.items c.in_ok-made.made
    c.args.failed.now c.requires.kept c.make_room.ensures.kept c.make_room.ensures.few c.in_ok-made.ensures.prepared)
