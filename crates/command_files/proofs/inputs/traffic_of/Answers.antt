use Rattle.std.proofs.Common.{length, ap, ◌∙◌}
use Rattle.std.proofs.lemmas.Result.{IfOk-weaker}
use Rattle.traffic_matrix.specs.declared.traffic.Traffic.{Traffic}
use Rattle.traffic_matrix.proofs.TrafficLemmas.{steps_stay}
use Rattle.command_files.proofs.inputs.traffic_of.Goals as goal

pub returns-clause-steps : goal.returns-clause-steps
returns-clause-steps c =
    IfOk-weaker c.of.result _ _
    (λ t is. ap (λ (x : Traffic). length x.sent.steps) is ∙ steps_stay (length c.as_slice-nodes.result.now) c.args.series c.args.predictions) c.of.ensures.traffic
