use Rattle.std.proofs.Common.{ℕ, List, sym, subst}
use Rattle.shortest_path.specs.Costs.{costs_of}
use Rattle.shortest_path.specs.Paths.{AreDistances}
use Rattle.step_detail.proofs.least_cost.distances_from.Goals as goal

pub returns : goal.returns
returns c =
    let net = c.args.net.now in
    subst (AreDistances net (costs_of net) c.args.node) (sym c.new.ensures)
    (subst (λ (l : List ℕ). AreDistances net l c.args.node c.in_ok-distances.distances.items) c.requires.costs.are c.in_ok-distances.ensures)
