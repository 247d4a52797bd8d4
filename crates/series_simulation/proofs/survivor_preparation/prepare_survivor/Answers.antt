use Rattle.std.proofs.Common.{subst, sym}
use Rattle.failure.specs.declared.survivor.Survivor.{Survivor}
use Rattle.scheme.specs.Reach.{ArePairsOf}
use Rattle.series_simulation.proofs.SeriesLemmas.{surviving_pairs}
use Rattle.series_simulation.proofs.survivor_preparation.prepare_survivor.Goals as goal

pub prepare_connected-requires-clause-pairs : goal.prepare_connected-requires-clause-pairs
prepare_connected-requires-clause-pairs g c =
    subst (λ (s : Survivor). ArePairsOf s.network c.args.pairs.now.list) (sym c.in_ok-survivor.ensures.survivor)
    (surviving_pairs c.args.net.now c.args.failed.now c.args.pairs.now.list c.requires.pairs)
