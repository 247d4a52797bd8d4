use Rattle.series_simulation.proofs.Existence.{steps_exist}
use Rattle.series_simulation.proofs.law.steps_exist.Goals as goal

pub returns : goal.returns
returns g c =
    steps_exist g.S.Scheme.PATHS (g.S.Scheme.is_plan c.args._scheme.now) (g.S.Scheme.relates c.args._scheme.now) g.S.Note.LowNote.low
    (g.S.Adaptive.path_set_routes c.args._scheme.now) (g.S.Adaptive.adapts c.args._scheme.now)
