use Rattle.std.proofs.Common.{◌≡◌, List, Option, ℕ, length, ap, ◌∙◌}
use Rattle.te_model.proofs.Lists.{written_whole}
use Rattle.shortest_path.proofs.Sound.{sound}
use Rattle.best_blocks.proofs.rows.row_from.Goals as goal

pub distances-requires-clause-sound : goal.distances-requires-clause-sound
distances-requires-clause-sound c = sound c.args.net.now c.requires.network

pub returns-clause-distances : goal.returns-clause-distances
returns-clause-distances c =
    let new = c.distances.new.distances in
    let old = c.in_ok-row.row.items in
    let kept : length new ≡ length old = c.distances.auto.distances ∙ ap (λ (r : List (Option ℕ)). length r) c.deref_mut.ensures.value in
    rw (written_whole c.in_ok-row.row.len new old kept c.in_ok-row.row.ok.0) c.distances.ensures.distances
