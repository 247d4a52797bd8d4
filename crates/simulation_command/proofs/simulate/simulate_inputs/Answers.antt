use Rattle.std.proofs.lemmas.Result.{err_from_is_err_and}
use Rattle.std.proofs.Common.{◌≡◌, Option, true, subst, sym}
use Rattle.te_model.specs.declared.network.Network.{Network}
use Rattle.te_model.specs.Network.{is_well_formed, node_count}
use Rattle.ratio_checker.proofs.FormedHeads.{head_formed}
use Rattle.traffic_matrix.specs.declared.series.Series.{Series}
use Rattle.traffic_matrix.specs.Limits.{IsSeries}
use Rattle.failure.specs.declared.outage.Failures.{Failures}
use Rattle.command_frame.specs.Reading.{Reading, answers}
use Rattle.command_files.specs.PlanReading.{with_failures}
use Rattle.simulation_command.specs.Simulate.{simulation_of}
use Rattle.command_frame.proofs.Following.{ends_or_falls_short}
use Rattle.command_files.proofs.PlanReads.{failures_go_on, failures_stop, predictions_go_on, predictions_stop}
use Rattle.simulation_command.proofs.simulate.simulate_inputs.Goals as goal

pub predictions_in-requires : goal.predictions_in-requires
predictions_in-requires g c = record {
  network = subst (λ (n : Network). is_well_formed n ≡ true) c.requires.network (head_formed c.args.head c.requires.head);
}

pub outages_in-requires-clause-network : goal.outages_in-requires-clause-network
outages_in-requires-clause-network g c =
    subst (λ (n : Network). is_well_formed n ≡ true) c.requires.network (head_formed c.args.head c.requires.head)

pub simulate_with-requires-clause-series : goal.simulate_with-requires-clause-series
simulate_with-requires-clause-series g c =
    subst (λ (n : Network). IsSeries (node_count n) c.args.inputs.now.series) (sym c.requires.network) c.requires.series

pub returns-in_err-_predictions : goal.returns-in_err-_predictions
returns-in_err-_predictions g c = λ blocks.
    let p = err_from_is_err_and c.from_residual.result c.from_residual.ensures.1 in
    let inputs = c.args.inputs.now in
    rw (p.1, p.2)
    (predictions_stop inputs.network inputs.plan.predictions (λ predictions. with_failures inputs.network inputs.series inputs.plan.failures (λ failures.
    answers (simulation_of (record { head = c.args.head; blocks = blocks }) inputs.plan inputs.series failures))) _ _ c.in_err-_predictions.field-0.0
    c.in_err-_predictions.ensures.reads)

pub returns-in_err-failures : goal.returns-in_err-failures
returns-in_err-failures g c = λ blocks.
    let p = err_from_is_err_and c.from_residual-in_err-failures.result c.from_residual-in_err-failures.ensures.1 in
    let inputs = c.args.inputs.now in
    let after = λ (failures : Failures). answers (simulation_of (record { head = c.args.head; blocks = blocks }) inputs.plan inputs.series failures) in
    rw (p.1, p.2)
    (predictions_go_on inputs.network inputs.plan.predictions (λ predictions. with_failures inputs.network inputs.series inputs.plan.failures after)
    c.in_ok-_predictions._predictions _ _ _ _ c.in_ok-_predictions.ensures.reads
    (failures_stop inputs.network inputs.series inputs.plan.failures after _ _ c.in_err-failures.field-0.0 c.in_err-failures.ensures.reads))

pub returns : goal.returns
returns g c = λ blocks.
    let inputs = c.args.inputs.now in
    let answers_of = simulation_of (record { head = c.args.head; blocks = blocks }) inputs.plan inputs.series in
    let after = λ (failures : Failures). answers (answers_of failures) in
    let failures = c.in_ok-failures.failures in
    predictions_go_on inputs.network inputs.plan.predictions (λ predictions. with_failures inputs.network inputs.series inputs.plan.failures after)
    c.in_ok-_predictions._predictions _ _ _ c.simulate_with.result c.in_ok-_predictions.ensures.reads
    (failures_go_on inputs.network inputs.series inputs.plan.failures after failures _ _ _ c.simulate_with.result c.in_ok-failures.ensures.reads
    (ends_or_falls_short (answers_of failures) _ c.simulate_with.result c.simulate_with.ensures.answer c.simulate_with.ensures.memory))
