use Rattle.std.proofs.Common.{List, sym, subst}
use Rattle.te_model.specs.declared.route.Pair.{Pair}
use Rattle.scheme.specs.Reach.{AllReached, ArePairsOf}
use Rattle.series_simulation.specs.Connected.{connects}
use Rattle.series_simulation.proofs.SeriesLemmas.{passing_pairs, passing_reached}
use Rattle.series_simulation.proofs.preparation.prepare_connected.Goals as goal

pub plan_for-requires-clause-pairs : goal.plan_for-requires-clause-pairs
plan_for-requires-clause-pairs g c =
    let net = c.args.net.now in
    subst (λ (ps : List Pair). ArePairsOf net ps) (sym c.in_ok-reached.ensures)
    (passing_pairs net (connects c.in_ok-reach.reach) c.args.pairs.now.list c.requires.pairs)

pub plan_for-requires-clause-reached : goal.plan_for-requires-clause-reached
plan_for-requires-clause-reached g c =
    let net = c.args.net.now in
    subst (λ (ps : List Pair). AllReached net ps) (sym c.in_ok-reached.ensures)
    (passing_reached net (connects c.in_ok-reach.reach) c.args.pairs.now.list c.requires.pairs c.in_ok-reach.ensures)

pub returns-clause-planned : goal.returns-clause-planned
returns-clause-planned g c =
    subst (λ (ps : List Pair). g.S.Scheme.is_plan c.args.scheme.now c.args.net.now ps c.in_ok-plan.plan) c.in_ok-reached.ensures c.in_ok-plan.ensures

pub returns-clause-tells : goal.returns-clause-tells
returns-clause-tells g c = c.in_ok-reach.ensures
