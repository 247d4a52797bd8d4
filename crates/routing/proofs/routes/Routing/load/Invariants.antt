use Rattle.std.proofs.Common.{◌≡◌, ◌*◌, ◌≤◌, slice_index}
use Rattle.te_model.specs.Flow.{load}
use Rattle.te_model.specs.Path.{share}
use Rattle.routing.proofs.routes.Routing.load.Given as goal

abbrev pub invariant-loop-pair : goal.invariant-loop-pair
invariant-loop-pair l =
    (l.load ≡ load l.pair (slice_index l.matrix.demand) (share l.self.routes) l.link) × (l.load ≤ l.pair * (4294967296 * 1000000))
