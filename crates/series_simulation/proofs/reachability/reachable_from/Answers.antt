use Rattle.std.proofs.Common.{◌≡◌, map, is_some, ap, sym, subst, ◌∙◌}
use Rattle.series_simulation.specs.Connected.{MarksReachable}
use Rattle.series_simulation.proofs.Paths.{row_of_distances}
use Rattle.series_simulation.proofs.reachability.reachable_from.Goals as goal

pub returns : goal.returns
returns c =
    let net = c.args.net.now in
    let distances = c.in_ok-distances.distances.items in
    let is : c.in_ok-row.row ≡ map is_some distances = c.in_ok-row.ensures ∙ ap (map is_some) c.deref.ensures.value in
    subst (MarksReachable net c.args.node) (sym is) (row_of_distances net c.args.costs.now c.args.node distances c.in_ok-distances.ensures)
