use Rattle.std.proofs.Common.{map}
use Rattle.te_model.specs.declared.route.Path.{Path}
use Rattle.racke_mix.proofs.TreeSplits.{PathsSoFar}
use Rattle.racke_mix.proofs.split.tree_paths.Given as goal

abbrev pub invariant-loop-round : goal.invariant-loop-round
invariant-loop-round l = PathsSoFar l.net l.rounds l.pair.src l.pair.dst l.round-index (map (λ (p : Path). p.links) l.paths.items)
