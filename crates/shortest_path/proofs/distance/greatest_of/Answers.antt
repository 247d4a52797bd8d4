use Rattle.std.proofs.Common.{None, take, arith, ap, get_or}
use Rattle.std.proofs.lemmas.List.{take_more}
use Rattle.shortest_path.specs.Paths.{greatest}
use Rattle.shortest_path.proofs.Filling.{greatest-push}
use Rattle.shortest_path.proofs.distance.greatest_of.Goals as goal

pub loop-distance-preserved : goal.loop-distance-preserved
loop-distance-preserved c =
    let ds = c.args.distances.now in
    let i = c.loop-distance.distance-index in
    let more = ap greatest (take_more ds i None (omega arith)) in
    let pushed = greatest-push (take i ds) (get_or ds i None) in
    grind (arith, more, pushed)
