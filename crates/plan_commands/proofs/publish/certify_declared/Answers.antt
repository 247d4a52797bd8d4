use Rattle.std.proofs.Common.{IfOk, subst}
use Rattle.traffic_matrix.specs.declared.traffic.Traffic.{Traffic}
use Rattle.command_frame.specs.Outcome.{answer_text, status_of}
use Rattle.plan_commands.specs.Publish.{IsPublication}
use Rattle.plan_commands.proofs.publish.certify_declared.Goals as goal

pub returns-clause-answer : goal.returns-clause-answer
returns-clause-answer c =
    subst (λ (t : Traffic). IfOk c.certify.result (λ answer. IsPublication c.args.inputs.plan c.args.inputs.network t.sent (status_of answer) (answer_text answer)))
    c.in_ok-traffic.ensures.traffic c.certify.ensures.answer
