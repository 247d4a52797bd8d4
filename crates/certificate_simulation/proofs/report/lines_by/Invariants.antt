use Rattle.std.proofs.Common.{◌≡◌, ◌*◌, ◌^◌, List}
use Rattle.std.specs.Prelude.{codes}
use Rattle.std.specs.List.{flat_map}
use Rattle.traffic_matrix.specs.Traffic.{known_traffic}
use Rattle.series_simulation.specs.declared.step_row.StepRow.{StepRow}
use Rattle.series_simulation.specs.KeptRouting.{IsKept, IsNeverAdapted, IsNoPlan, no_bound, no_path_set, without_rerouting}
use Rattle.series_simulation.proofs.Rowing.{AreRowsBefore}
use Rattle.experiment.specs.Text.{AmountsAtMost, step_line, total_of}
use Rattle.certificate_simulation.proofs.report.lines_by.Given as goal

abbrev pub invariant-loop-step : goal.invariant-loop-step
invariant-loop-step l = record {
  written : (rows : List StepRow)
      × AreRowsBefore 4096 IsNoPlan (IsKept l.routing.routes) no_bound no_path_set IsNeverAdapted l.network (known_traffic l.whole) l.failures
      (without_rerouting l.recovery) tt l.step rows
      × (l.text.items ≡ flat_map (step_line (codes "certificate")) rows) × (l.total ≡ total_of rows);
  small : AmountsAtMost (l.step * 2 ^ 64) l.total;
}
