use Rattle.std.proofs.Common.{◌≡◌, ◌<◌, ◌≤◌, false, length}
use Rattle.te_model.specs.Validity.{list_below}
use Rattle.routing.specs.Merge.{links_at}
use Rattle.routing.proofs.merging.place_of.Given as goal

abbrev pub invariant-loop-place : goal.invariant-loop-place
invariant-loop-place l = (l.place ≤ length l.paths) × (l.place < length l.paths → list_below (links_at l.paths l.place) l.links ≡ false)

abbrev pub decreases-loop-place : goal.decreases-loop-place
decreases-loop-place l = l.place
