use Rattle.std.specs.Prelude.{IfSome}
use Rattle.shortest_path.specs.declared.rows.Direction.TheVariants.{Forward}
use Rattle.shortest_path.specs.Rows.{IsSearchGraph}
use Rattle.ratio_certificate.specs.Offering.{AreStarts}
use Rattle.ratio_certificate.proofs.making.starts.Given as goal

abbrev pub invariant-loop-shared : goal.invariant-loop-shared
invariant-loop-shared l =
    AreStarts l.shared-index l.problem.net.now l.problem.routing.now.routes l.problem.set.now l.links l.offers l.list.items
    × IfSome l.kept (IsSearchGraph l.problem.net.now Forward)
