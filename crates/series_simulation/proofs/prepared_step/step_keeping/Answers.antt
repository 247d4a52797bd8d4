use Rattle.std.proofs.Common.{arith, sym, subst}
use Rattle.series_simulation.specs.SurvivorPreparation.{IsPreparedWithout}
use Rattle.series_simulation.proofs.SeriesLemmas.{series_pairs}
use Rattle.series_simulation.proofs.prepared_step.step_keeping.Goals as goal

pub place_for-requires-clause-marks : goal.place_for-requires-clause-marks
place_for-requires-clause-marks g c = c.requires.input.marks

pub place_for-requires-clause-pairs : goal.place_for-requires-clause-pairs
place_for-requires-clause-pairs g c = series_pairs c.args.net.now c.args.input.now.traffic.now.sent c.requires.network c.requires.input.traffic.sent

pub index-requires : goal.index-requires
index-requires g c = omega (arith, c.in_ok-place.ensures.prepared.inside, c.place_for.new.kept.ok.0)

pub rerouted_step-requires-clause-made : goal.rerouted_step-requires-clause-made
rerouted_step-requires-clause-made g c =
    subst (IsPreparedWithout (g.S.Scheme.is_plan c.args.scheme.now) c.args.net.now c.args.input.now.failed.now c.args.input.now.traffic.now.sent.pairs.list)
    (sym c.index.ensures) (c.in_ok-place.ensures.prepared.prepared c.index.result.now)
