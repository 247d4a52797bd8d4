use Rattle.std.proofs.Common.{◌≡◌, take}
use Rattle.te_model.specs.Path.{weight_on}
use Rattle.routing.proofs.routes.weight_on.Given as goal

abbrev pub invariant-loop-path : goal.invariant-loop-path
invariant-loop-path l = l.weight ≡ weight_on (take l.path-index l.paths) l.link
