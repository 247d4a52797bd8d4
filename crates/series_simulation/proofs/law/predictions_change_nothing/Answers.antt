use Rattle.series_simulation.proofs.Predictions.{predictions_change_nothing}
use Rattle.series_simulation.proofs.law.predictions_change_nothing.Goals as goal

pub returns : goal.returns
returns g c =
    predictions_change_nothing g.S.Scheme.PATHS (g.S.Scheme.is_plan c.args._scheme.now) (g.S.Scheme.relates c.args._scheme.now) g.S.Note.LowNote.low
    (g.S.Adaptive.path_set_routes c.args._scheme.now) (g.S.Adaptive.adapts c.args._scheme.now)
