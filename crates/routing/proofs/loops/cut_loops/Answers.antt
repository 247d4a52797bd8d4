use Rattle.routing.specs.Loops.{end_of}
use Rattle.routing.proofs.Cutting.{cut_is_path}
use Rattle.routing.proofs.loops.cut_loops.Goals as goal

pub returns-clause-cut : goal.returns-clause-cut
returns-clause-cut c = c.in_ok-cut_loops_into.ensures

pub returns-clause-path : goal.returns-clause-path
returns-clause-path c =
    cut_is_path c.args.net.now c.args.src (end_of c.args.net.now c.args.src c.args.walk.now) c.args.walk.now c.cut_loops_into.new.cut.items c.requires c.in_ok-cut_loops_into.ensures
