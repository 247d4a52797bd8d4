use Rattle.std.proofs.Common.{◌≡◌, All, map, take}
use Rattle.te_model.specs.declared.route.PathShare.{PathShare}
use Rattle.rate_sweeps.specs.Sweeps.{IsWeight, paths_of_pair}
use Rattle.rate_sweeps.proofs.mix.parts_of_pair.Given as goal

abbrev pub invariant-loop-sweep : goal.invariant-loop-sweep
invariant-loop-sweep l =
    (map (λ (s : PathShare). s.links) l.parts.items ≡ paths_of_pair (take l.sweep-index l.sweeps) l.pair)
    × All (λ (s : PathShare). IsWeight s.weight) l.parts.items
