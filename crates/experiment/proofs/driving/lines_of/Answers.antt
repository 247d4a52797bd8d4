use Rattle.series_simulation.proofs.SeriesLemmas.{series_pairs}
use Rattle.experiment.proofs.driving.lines_of.Goals as goal

pub prepare_connected-requires-clause-pairs : goal.prepare_connected-requires-clause-pairs
prepare_connected-requires-clause-pairs g c = series_pairs c.args.input.now.network.now c.args.input.now.traffic.now.sent c.requires.input.network c.requires.input.traffic.sent

pub prepare_connected-requires-clause-network : goal.prepare_connected-requires-clause-network
prepare_connected-requires-clause-network g c = c.requires.input.network

pub lines_with-requires-clause-tells : goal.lines_with-requires-clause-tells
lines_with-requires-clause-tells g c = c.in_ok-prepared.ensures.tells

pub lines_with-requires-clause-planned : goal.lines_with-requires-clause-planned
lines_with-requires-clause-planned g c = c.in_ok-prepared.ensures.planned

pub returns : goal.returns
returns g c = c.lines_with.ensures
