use Rattle.std.proofs.Common.{List}
use Rattle.te_model.specs.declared.certificate.Certificate.{Certificate}
use Rattle.experiment.specs.Published.{AreMadeBySeeds, IsFirstOfLeastRatio}
use Rattle.experiment.proofs.published_file.best_certificate.Given as goal

-- the best of the certificates so far
abbrev pub invariant-loop-count : goal.invariant-loop-count
invariant-loop-count l = (certificates : List Certificate) × AreMadeBySeeds l.plan l.network l.series l.count certificates × IsFirstOfLeastRatio certificates l.best
