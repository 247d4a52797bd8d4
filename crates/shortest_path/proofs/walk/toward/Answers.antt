use Rattle.std.proofs.Common.{◌≡◌, ℕ, List, Option, length, ap, ◌∙◌}
use Rattle.te_model.proofs.Lists.{written_whole}
use Rattle.shortest_path.proofs.walk.toward.Goals as goal

pub toward-requires-clause-sound : goal.toward-requires-clause-sound
toward-requires-clause-sound c = c.requires.sound

pub toward-requires-clause-limit : goal.toward-requires-clause-limit
toward-requires-clause-limit c = c.requires.limit

pub returns : goal.returns
returns c =
    let old = c.in_ok-sums.sums in
    let new = c.toward.new.sums in
    let kept : length new ≡ length old.items = c.toward.auto.sums ∙ ap (λ (l : List (Option ℕ)). length l) c.deref_mut.ensures.value in
    rw (written_whole old.len new old.items kept old.ok.0) c.toward.ensures.sums
