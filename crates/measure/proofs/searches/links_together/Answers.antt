use Rattle.std.proofs.Common.{sym, subst}
use Rattle.shortest_path.specs.declared.rows.Direction.TheVariants.{Backward}
use Rattle.shortest_path.specs.Rows.{IsSearchGraph}
use Rattle.shortest_path.proofs.Sound.{sound}
use Rattle.measure.proofs.searches.links_together.Goals as goal

pub new-requires : goal.new-requires
new-requires c = sound c.args.net.now c.requires.network

pub loop-dst-preserved : goal.loop-dst-preserved
loop-dst-preserved c = subst (IsSearchGraph c.args.net.now Backward) (sym c.links_by.ensures) c.loop-dst.invariant
