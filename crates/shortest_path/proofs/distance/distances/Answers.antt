use Rattle.std.proofs.Common.{◌≡◌, ℕ, List, Option, length, ap, ◌∙◌}
use Rattle.shortest_path.proofs.Sound.{sound}
use Rattle.te_model.proofs.Lists.{written_whole}
use Rattle.shortest_path.proofs.distance.distances.Goals as goal

pub new-requires : goal.new-requires
new-requires c = sound c.args.net.now c.requires.network

pub distances-requires-clause-sound : goal.distances-requires-clause-sound
distances-requires-clause-sound c = sound c.args.net.now c.requires.network

pub returns : goal.returns
returns c =
    let old = c.in_ok-distances.distances in
    let new = c.distances.new.distances in
    let kept : length new ≡ length old.items = c.distances.auto.distances ∙ ap (λ (l : List (Option ℕ)). length l) c.deref_mut.ensures.value in
    rw (written_whole old.len new old.items kept old.ok.0) c.distances.ensures.distances
