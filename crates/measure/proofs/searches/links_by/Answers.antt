use Rattle.shortest_path.proofs.Sound.{sound}
use Rattle.measure.proofs.searches.links_by.Goals as goal

pub way_from-requires-clause-sound : goal.way_from-requires-clause-sound
way_from-requires-clause-sound c = sound c.args.net.now c.requires.network

pub way_from-requires-clause-ways : goal.way_from-requires-clause-ways
way_from-requires-clause-ways c = c.in_ok-ways.ensures.ways
