use Rattle.std.proofs.Common.{◌≡◌, [], length, get_or, arith, ap, sym, subst, ◌∙◌}
use Rattle.te_model.specs.Network.{node_count}
use Rattle.te_model.proofs.Choices.{pushed_count, pushed_each}
use Rattle.series_simulation.specs.Connected.{MarksReachable, TellsPaths, connects}
use Rattle.series_simulation.proofs.Paths.{tells_of_rows}
use Rattle.series_simulation.proofs.reachability.Reachability.of.Goals as goal

pub returns : goal.returns
returns c =
    let net = c.args.net.now in
    let rows = c.loop-node.rows.items in
    let every : c.loop-node.node ≡ node_count net = omega (arith, c.loop-node-test.false, c.loop-node.auto.node-end, ap length c.as_slice-node-end.ensures) in
    subst (λ rs. TellsPaths net (connects (record { rows = rs }))) (sym c.new.ensures)
    (tells_of_rows net (record { rows = rows }) (λ s below. c.loop-node.invariant.each s (omega (arith, below, every))))

pub loop-node-preserved : goal.loop-node-preserved
loop-node-preserved c =
    let net = c.args.net.now in
    let rows = c.loop-node.rows.items in
    let row = c.in_ok-reachable_from.field-0 in
    let so_far = c.loop-node.invariant in
    record {
      count = ap length c.in_ok-push.ensures.items ∙ pushed_count rows row c.loop-node.node so_far.count;
      each = λ s below.
          subst (λ rs. MarksReachable net s (get_or rs s [])) (sym c.in_ok-push.ensures.items)
          (pushed_each (MarksReachable net) rows row [] c.loop-node.node so_far.count so_far.each c.in_ok-reachable_from.ensures s below);
    }
