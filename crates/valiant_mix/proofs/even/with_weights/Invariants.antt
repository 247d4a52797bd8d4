use Rattle.std.proofs.Common.{◌≡◌, length, map, take}
use Rattle.te_model.specs.declared.route.Path.{Path}
use Rattle.routing.specs.Normal.{weighted_paths}
use Rattle.valiant_mix.proofs.even.with_weights.Given as goal

abbrev pub invariant-loop-path : goal.invariant-loop-path
invariant-loop-path l = l.made.items ≡ weighted_paths (map (λ (p : Path). p.links) l.yielded) (take (length l.yielded) l.weights)
