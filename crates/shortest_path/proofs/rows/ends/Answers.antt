use Rattle.std.proofs.Common.{ap, sym}
use Rattle.shortest_path.specs.declared.rows.Direction.{Direction}
use Rattle.shortest_path.specs.Links.{ends_of}
use Rattle.shortest_path.proofs.rows.ends.Goals as goal

pub returns-in-Backward : goal.returns-in-Backward
returns-in-Backward c = ap (λ (d : Direction). ends_of d c.args.link) (sym c.in-Backward.is)
