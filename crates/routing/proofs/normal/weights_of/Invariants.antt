use Rattle.std.proofs.Common.{◌≡◌, map, take}
use Rattle.te_model.specs.declared.route.PathShare.{PathShare}
use Rattle.routing.proofs.normal.weights_of.Given as goal

abbrev pub invariant-loop-part : goal.invariant-loop-part
invariant-loop-part l = l.weights.items ≡ map (λ (s : PathShare). s.weight) (take l.part-index l.parts)
