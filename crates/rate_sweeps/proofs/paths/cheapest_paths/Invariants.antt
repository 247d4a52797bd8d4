use Rattle.std.proofs.Common.{◌≡◌, ℕ, ◌<◌, [], length, map, get_or}
use Rattle.te_model.specs.Path.{routes_at}
use Rattle.routing.specs.Merge.{HasLinks}
use Rattle.rate_sweeps.specs.Choices.{IsLeastAmong}
use Rattle.rate_sweeps.specs.Sweeps.{links_in}
use Rattle.rate_sweeps.proofs.paths.cheapest_paths.Given as goal

-- each of the first pairs has one of its paths, than which none is cheaper
abbrev pub invariant-loop-p : goal.invariant-loop-p
invariant-loop-p l =
    (length l.list.items ≡ l.p)
    × ((p : ℕ) → p < l.p → HasLinks (routes_at l.routing.routes p).paths (get_or (map links_in l.list.items) p []))
    × ((p : ℕ) → p < l.p → IsLeastAmong l.lengths (routes_at l.routing.routes p).paths (get_or (map links_in l.list.items) p []))
