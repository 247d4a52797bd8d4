use Rattle.std.proofs.Common.{List, Bool, ap, sym, subst, ◌∙◌}
use Rattle.std.specs.Option.{IfSome, is_some, option_map}
use Rattle.traffic_matrix.specs.Traffic.{predicted_in, sent_in}
use Rattle.series_simulation.specs.SurvivorPreparation.{IsPreparedWithout}
use Rattle.series_simulation.proofs.SeriesLemmas.{series_pairs}
use Rattle.series_simulation.proofs.StepRoutings.{anew_in_step, planned_in_step}
use Rattle.series_simulation.proofs.step_routing.step_routing.Goals as goal

pub matrix_of-matrix-requires-clause-step : goal.matrix_of-matrix-requires-clause-step
matrix_of-matrix-requires-clause-step g c = c.requires.input.step

pub matrix_of-matrix-requires-clause-demands : goal.matrix_of-matrix-requires-clause-demands
matrix_of-matrix-requires-clause-demands g c = c.requires.input.traffic.sent.matrices

pub predicted_of-predicted-requires-clause-traffic : goal.predicted_of-predicted-requires-clause-traffic
predicted_of-predicted-requires-clause-traffic g c = (_, c.requires.input.traffic)

pub predicted_of-predicted-requires-clause-step : goal.predicted_of-predicted-requires-clause-step
predicted_of-predicted-requires-clause-step g c = c.requires.input.step

pub route_survivor-requires-clause-pairs : goal.route_survivor-requires-clause-pairs
route_survivor-requires-clause-pairs g c = series_pairs c.args.net.now c.args.input.now.traffic.now.sent c.requires.network c.requires.input.traffic.sent

pub route_survivor-requires-clause-made : goal.route_survivor-requires-clause-made
route_survivor-requires-clause-made g c =
    let says = g.S.Scheme.is_plan c.args.scheme.now in
    let net = c.args.net.now in
    let pairs = c.args.input.now.traffic.now.sent.pairs.list in
    let failed = c.args.input.now.failed.now in
    let is = subst (λ o. IfSome o (λ m. IsPreparedWithout says net failed pairs m.now)) c.in-Some.is c.requires.survivor in
    subst (λ (f : List Bool). IsPreparedWithout says net f pairs c.in-Some.made.now) (sym is.marks) is

pub route_survivor-requires-clause-predicted : goal.route_survivor-requires-clause-predicted
route_survivor-requires-clause-predicted g c = c.predicted_of-predicted.ensures.demands

pub route_survivor-requires-clause-demands : goal.route_survivor-requires-clause-demands
route_survivor-requires-clause-demands g c = c.matrix_of-matrix.ensures.demands

pub route_by_plan-requires-clause-marks : goal.route_by_plan-requires-clause-marks
route_by_plan-requires-clause-marks g c = c.requires.input.marks

pub route_by_plan-requires-clause-pairs : goal.route_by_plan-requires-clause-pairs
route_by_plan-requires-clause-pairs g c = series_pairs c.args.net.now c.args.input.now.traffic.now.sent c.requires.network c.requires.input.traffic.sent

pub route_by_plan-requires-clause-ascending : goal.route_by_plan-requires-clause-ascending
route_by_plan-requires-clause-ascending g c = c.requires.input.traffic.sent.ascending

pub route_by_plan-requires-clause-tells : goal.route_by_plan-requires-clause-tells
route_by_plan-requires-clause-tells g c = c.requires.input.tells

pub route_by_plan-requires-clause-planned : goal.route_by_plan-requires-clause-planned
route_by_plan-requires-clause-planned g c = c.requires.input.planned

pub route_by_plan-requires-clause-predicted : goal.route_by_plan-requires-clause-predicted
route_by_plan-requires-clause-predicted g c = c.predicted_of-predicted.ensures.demands

pub route_by_plan-requires-clause-demands : goal.route_by_plan-requires-clause-demands
route_by_plan-requires-clause-demands g c = c.matrix_of-matrix.ensures.demands

pub returns-in_ok-anew-in-Some-clause-routed : goal.returns-in_ok-anew-in-Some-clause-routed
returns-in_ok-anew-in-Some-clause-routed g c =
    let input = c.args.input.now in
    let net = c.args.net.now in
    let pairs = input.traffic.now.sent.pairs.list in
    let failed = input.failed.now in
    let anew = c.in_ok-anew-in-Some.anew in
    let is = subst (λ o. IfSome o (λ m. IsPreparedWithout (g.S.Scheme.is_plan c.args.scheme.now) net failed pairs m.now)) c.in-Some.is c.requires.survivor in
    anew_in_step g.S.Scheme.PATHS (g.S.Scheme.is_plan c.args.scheme.now) (g.S.Scheme.relates c.args.scheme.now) g.S.Note.LowNote.low
    (g.S.Adaptive.path_set_routes c.args.scheme.now) (g.S.Adaptive.adapts c.args.scheme.now)
    net pairs input.recovery input.prepared.now.plan failed (option_map (λ m. m.now.demand) c.predicted_of-predicted.result)
    (predicted_in input.traffic.now input.step) c.matrix_of-matrix.result.now.demand (sent_in input.traffic.now input.step)
    anew.routing.routes anew.parts anew.low c.predicted_of-predicted.ensures.predicted c.matrix_of-matrix.ensures.matrix
    c.in-Some.made.now.failed (sym c.requires.rerouted ∙ ap is_some c.in-Some.is) is.marks c.in_ok-anew-in-Some.ensures.rerouted

pub returns-in_ok-routed-in-None-clause-routed : goal.returns-in_ok-routed-in-None-clause-routed
returns-in_ok-routed-in-None-clause-routed g c =
    let input = c.args.input.now in
    let pairs = input.traffic.now.sent.pairs.list in
    let routed = c.in_ok-routed-in-None.routed in
    planned_in_step g.S.Scheme.PATHS (g.S.Scheme.is_plan c.args.scheme.now) (g.S.Scheme.relates c.args.scheme.now) g.S.Note.LowNote.low
    (g.S.Adaptive.path_set_routes c.args.scheme.now) (g.S.Adaptive.adapts c.args.scheme.now)
    c.args.net.now pairs input.recovery input.prepared.now.plan input.failed.now (option_map (λ m. m.now.demand) c.predicted_of-predicted.result)
    (predicted_in input.traffic.now input.step) c.matrix_of-matrix.result.now.demand (sent_in input.traffic.now input.step)
    routed.routing.routes routed.parts routed.low c.predicted_of-predicted.ensures.predicted c.matrix_of-matrix.ensures.matrix
    (sym c.requires.rerouted ∙ ap is_some c.in-None.is) c.in_ok-routed-in-None.ensures.routed
