use Rattle.std.proofs.Common.{map, subst}
use Rattle.std.specs.Prelude.{IfOk}
use Rattle.te_model.specs.declared.route.Path.{Path}
use Rattle.shortest_path.proofs.Sound.{sound}
use Rattle.k_paths.specs.Classes.{AreLeast}
use Rattle.k_paths.proofs.least.k_least.Goals as goal

pub new-requires : goal.new-requires
new-requires c = sound c.args.net.now c.requires.network

pub returns : goal.returns
returns c =
    subst (λ t. IfOk c.k_least_by.result (λ p. AreLeast c.args.net.now c.args.src t c.args.k (map (λ (q : Path). q.links) p.items)))
    c.in_ok-ways.ensures.dst c.k_least_by.ensures
