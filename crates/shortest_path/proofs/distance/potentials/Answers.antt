use Rattle.std.proofs.Common.{◌≡◌, map, sym, subst}
use Rattle.std.specs.Prelude.{unwrap_or}
use Rattle.std.proofs.lemmas.Result.{IfOk-weaker}
use Rattle.shortest_path.specs.Paths.{AreDistances, ArePotentials, greatest}
use Rattle.shortest_path.proofs.Sound.{sound}
use Rattle.shortest_path.proofs.Filling.{potentials_of_distances}
use Rattle.shortest_path.proofs.distance.potentials.Goals as goal

pub returns : goal.returns
returns c =
    let net = c.args.net.now in
    let lengths = c.args.lengths.now in
    let ds = c.deref.result.now in
    let are : AreDistances net lengths c.args.src ds = subst (AreDistances net lengths c.args.src) (sym c.deref.ensures.value) c.in_ok-distances.ensures in
    IfOk-weaker c.potentials_by.result (λ p. p.items ≡ map (λ d. unwrap_or d (greatest ds)) ds) (λ p. ArePotentials net lengths c.args.src p.items)
    (λ p is. subst (ArePotentials net lengths c.args.src) (sym is)
    (potentials_of_distances net lengths c.args.src ds (sound net c.requires.network) c.requires.src are)) c.potentials_by.ensures
