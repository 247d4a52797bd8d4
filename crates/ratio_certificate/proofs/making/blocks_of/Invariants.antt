use Rattle.shortest_path.specs.declared.rows.Direction.TheVariants.{Forward}
use Rattle.shortest_path.specs.Rows.{IsSearchGraph}
use Rattle.ratio_certificate.specs.Making.{AreBlocksOf}
use Rattle.ratio_certificate.proofs.making.blocks_of.Given as goal

abbrev pub invariant-loop-k : goal.invariant-loop-k
invariant-loop-k l =
    AreBlocksOf l.k l.problem.net.now l.problem.routing.now.routes l.problem.set.now l.list l.blocks.items
    × IsSearchGraph l.problem.net.now Forward l.searches
