use Rattle.std.proofs.Common.{◌≡◌, take}
use Rattle.routing.specs.Normal.{weighted_paths}
use Rattle.routing.proofs.Normalizing.{all_links}
use Rattle.routing.proofs.normal.with_weights.Given as goal

abbrev pub invariant-loop-i : goal.invariant-loop-i
invariant-loop-i l = l.made.items ≡ weighted_paths (all_links (take l.i l.parts)) (take l.i l.weights)
