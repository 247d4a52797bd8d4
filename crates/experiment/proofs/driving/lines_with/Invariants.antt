use Rattle.std.proofs.Common.{◌≡◌, ◌*◌, ◌^◌, List}
use Rattle.std.specs.List.{flat_map}
use Rattle.std.specs.Option.{IfSome}
use Rattle.series_simulation.specs.declared.step_row.StepRow.{StepRow}
use Rattle.series_simulation.specs.Repeated.{IsRowIn}
use Rattle.series_simulation.specs.SurvivorPreparation.{AreKept}
use Rattle.series_simulation.proofs.Rowing.{AreRowsBefore}
use Rattle.experiment.specs.Text.{AmountsAtMost, step_line, total_of}
use Rattle.experiment.proofs.driving.lines_with.Given as goal

abbrev pub invariant-loop-step : goal.invariant-loop-step
invariant-loop-step g l = record {
  written : (rows : List StepRow)
      × AreRowsBefore g.S.Scheme.PATHS (g.S.Scheme.is_plan l.scheme) (g.S.Scheme.relates l.scheme) g.S.Note.LowNote.low
      (g.S.Adaptive.path_set_routes l.scheme) (g.S.Adaptive.adapts l.scheme) l.input.network.now l.input.traffic.now l.input.failures.now
      l.input.plan.now.recovery l.prepared.plan l.step rows
      × (l.text.items ≡ flat_map (step_line l.word) rows) × (l.total ≡ total_of rows);
  small : AmountsAtMost (l.step * 2 ^ 64) l.total;
  last : IfSome l.last (IsRowIn g.S.Scheme.PATHS (g.S.Scheme.is_plan l.scheme) (g.S.Scheme.relates l.scheme) g.S.Note.LowNote.low
      (g.S.Adaptive.path_set_routes l.scheme) (g.S.Adaptive.adapts l.scheme) l.input.network.now l.marks.items l.input.traffic.now l.input.plan.now.recovery l.prepared.plan);
  kept : AreKept (g.S.Scheme.is_plan l.scheme) l.input.network.now l.input.traffic.now.sent.pairs.list l.kept.items;
}
