use Rattle.series_simulation.proofs.Rowing.{AreRowsBefore}
use Rattle.series_simulation.proofs.series_rows.drive.Given as goal

abbrev pub invariant-loop-step : goal.invariant-loop-step
invariant-loop-step g l =
    AreRowsBefore g.S.Scheme.PATHS (g.S.Scheme.is_plan l.scheme) (g.S.Scheme.relates l.scheme) g.S.Note.LowNote.low
    (g.S.Adaptive.path_set_routes l.scheme) (g.S.Adaptive.adapts l.scheme) l.net l.traffic l.failures l.recovery
    l.prepared.plan l.step l.rows.items
