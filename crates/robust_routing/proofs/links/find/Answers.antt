use Rattle.std.proofs.Common.{sym, subst}
use Rattle.shortest_path.specs.declared.rows.Direction.TheVariants.{Forward}
use Rattle.shortest_path.specs.Rows.{IsSearchGraph}
use Rattle.robust_routing.proofs.links.find.Goals as goal

pub write_row-requires-clause-along : goal.write_row-requires-clause-along
write_row-requires-clause-along c =
    subst (IsSearchGraph c.args.round.now.net.now Forward) (sym c.loop-p.invariant.0) c.requires.along
