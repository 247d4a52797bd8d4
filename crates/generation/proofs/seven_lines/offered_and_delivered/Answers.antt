use Rattle.std.proofs.Common.{◌∙◌, ap, subst, List, sum_by}
use Rattle.failure.specs.declared.outage.Failures.{Failures}
use Rattle.failure.specs.declared.outage.Outage.{Outage}
use Rattle.plan.specs.declared.recovery.Recovery.TheVariants.{Keep}
use Rattle.series_simulation.specs.declared.step_row.StepRow.{StepRow}
use Rattle.series_simulation.specs.Rows.{AreStepRows}
use Rattle.generation.specs.Summary.{least_paths}
use Rattle.generation.proofs.seven_lines.offered_and_delivered.Goals as goal

pub returns : goal.returns
returns c = record {
  rows = c.in_ok-rows.rows;
  driven = subst (λ (f : Failures). AreStepRows least_paths.limit least_paths.is_plan least_paths.relates least_paths.low least_paths.path_set least_paths.adapts c.args.network.now c.args.traffic.now f Keep c.in_ok-rows.rows)
      (ap (λ (l : List Outage). let f : Failures = record { list = l } in f) (c.new-2.ensures ∙ c.new.ensures.items)) c.in_ok-rows.ensures.rows;
  offered_is = c.offered_in.ensures ∙ ap (λ (rows : List StepRow). sum_by (λ row. row.result.offered) rows) c.as_slice.ensures;
  delivered_is = c.delivered_in.ensures ∙ ap (λ (rows : List StepRow). sum_by (λ row. row.result.delivered) rows) c.as_slice-2.ensures;
}
