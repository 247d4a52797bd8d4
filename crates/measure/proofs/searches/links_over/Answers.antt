use Rattle.std.proofs.Common.{sym, subst}
use Rattle.shortest_path.specs.Least.{AreLeastSums}
use Rattle.measure.proofs.searches.links_over.Goals as goal

pub toward-requires-clause-sound : goal.toward-requires-clause-sound
toward-requires-clause-sound c = c.requires.sound

pub toward-requires-clause-limit : goal.toward-requires-clause-limit
toward-requires-clause-limit c = c.requires.limit

pub follow-requires-clause-sound : goal.follow-requires-clause-sound
follow-requires-clause-sound c = c.requires.sound

pub follow-requires-clause-positive : goal.follow-requires-clause-positive
follow-requires-clause-positive c = c.requires.positive

pub follow-requires-clause-distances : goal.follow-requires-clause-distances
follow-requires-clause-distances c =
    subst (AreLeastSums c.args.net.now c.args.lengths.now c.args.open.now c.args.dst) (sym c.deref.ensures.value) c.in_ok-sums.ensures
