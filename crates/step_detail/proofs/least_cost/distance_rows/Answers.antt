use Rattle.std.proofs.Common.{◌≡◌, ℕ, List, [], Option, length, get_or, arith, ap, sym, subst, ◌∙◌}
use Rattle.te_model.specs.Network.{node_count}
use Rattle.te_model.proofs.Choices.{pushed_count, pushed_each}
use Rattle.shortest_path.specs.Costs.{costs_of}
use Rattle.shortest_path.specs.Paths.{AreDistances}
use Rattle.step_detail.proofs.least_cost.distance_rows.Goals as goal

pub loop-node-preserved : goal.loop-node-preserved
loop-node-preserved c =
    let net = c.args.net.now in
    let rows = c.loop-node.rows.items in
    let row = c.in_ok-distances_from.field-0 in
    let so_far = c.loop-node.invariant in
    record {
      count = ap length c.in_ok-push.ensures.items ∙ pushed_count rows row c.loop-node.node so_far.count;
      each = λ v below.
          subst (λ (rs : List (List (Option ℕ))). AreDistances net (costs_of net) v (get_or rs v [])) (sym {A = List (List (Option ℕ))} c.in_ok-push.ensures.items)
          (pushed_each (AreDistances net (costs_of net)) rows row [] c.loop-node.node so_far.count so_far.each c.in_ok-distances_from.ensures v below);
    }

pub returns : goal.returns
returns c =
    let every : c.loop-node.node ≡ node_count c.args.net.now = omega (arith, c.loop-node-test.false, c.loop-node.auto.node-end, ap length c.as_slice-node-end.ensures) in
    record {
      count = c.loop-node.invariant.count ∙ every;
      each = λ v below. c.loop-node.invariant.each v (omega (arith, below, every));
    }
