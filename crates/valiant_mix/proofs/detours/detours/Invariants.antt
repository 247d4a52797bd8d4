use Rattle.std.proofs.Common.{map}
use Rattle.te_model.specs.declared.route.Path.{Path}
use Rattle.valiant_mix.specs.Valiant.{AreDetours}
use Rattle.valiant_mix.proofs.detours.detours.Given as goal

abbrev pub invariant-loop-middle : goal.invariant-loop-middle
invariant-loop-middle l = AreDetours l.net l.src l.dst l.middle (map (λ (p : Path). p.links) l.paths.items)
