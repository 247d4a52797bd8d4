use Rattle.std.proofs.Common.{◌≡◌, map}
use Rattle.te_model.specs.declared.route.Path.{Path}
use Rattle.routing.specs.Even.{of_weight_one}
use Rattle.routing.proofs.even.of_weight_one.Given as goal

abbrev pub invariant-loop-path : goal.invariant-loop-path
invariant-loop-path l = l.parts.items ≡ of_weight_one (map (λ (p : Path). p.links) l.yielded)
