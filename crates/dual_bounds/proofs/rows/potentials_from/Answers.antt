use Rattle.std.proofs.Common.{◌≡◌, ℕ, List, Option, length, ap, sym, ◌∙◌, subst}
use Rattle.te_model.proofs.Lists.{written_whole}
use Rattle.shortest_path.specs.Paths.{AreDistances, ArePotentials}
use Rattle.shortest_path.proofs.Filling.{potentials_of_distances}
use Rattle.shortest_path.proofs.Sound.{sound}
use Rattle.dual_bounds.proofs.rows.potentials_from.Goals as goal

pub distances-requires-clause-sound : goal.distances-requires-clause-sound
distances-requires-clause-sound c = sound c.args.net.now c.requires.network

pub returns-clause-potentials : goal.returns-clause-potentials
returns-clause-potentials c =
    let net = c.args.net.now in
    let lengths = c.args.lengths.now in
    let node = c.args.node in
    let old = c.in_ok-distances.distances in
    let new = c.distances.new.distances in
    let kept : length new ≡ length old.items = c.distances.auto.distances ∙ ap (λ (l : List (Option ℕ)). length l) c.deref_mut.ensures.value in
    let found = c.deref.result.now in
    let are : AreDistances net lengths node found =
    subst (AreDistances net lengths node) (sym (c.deref.ensures.value ∙ written_whole old.len new old.items kept old.ok.0)) c.distances.ensures.distances
    in
    subst (ArePotentials net lengths node) (sym c.in_ok-potentials.ensures)
    (potentials_of_distances net lengths node found (sound net c.requires.network) c.requires.node are)
