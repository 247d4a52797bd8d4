use Rattle.std.proofs.Common.{sym, subst}
use Rattle.shortest_path.specs.Least.{AreLeastSums}
use Rattle.shortest_path.proofs.walk.least_walk.Goals as goal

pub follow-requires-clause-distances : goal.follow-requires-clause-distances
follow-requires-clause-distances c =
    subst (AreLeastSums c.args.net.now c.args.lengths.now c.args.open.now c.args.dst) (sym c.deref.ensures.value) c.in_ok-distances.ensures
