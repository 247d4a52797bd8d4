use Rattle.std.proofs.Common.{sym, ◌∙◌}
use Rattle.traffic_matrix.proofs.OutsideRows.{pairs_stay_inside}
use Rattle.simulation_command.proofs.simulation_files.RoutedMatricesFileKind.read.Goals as goal

pub returns-in-Ok-None-clause-sound : goal.returns-in-Ok-None-clause-sound
returns-in-Ok-None-clause-sound c = (
  c.in-Ok.ensures.in_range,
  pairs_stay_inside c.args.self.now.network.now c.args.self.now.pairs.now c.args.bytes.now c.in-Ok.series c.in-Ok.ensures.series (sym c.in-Ok-None.ensures ∙ c.in-Ok-None.field-0-is),
)
