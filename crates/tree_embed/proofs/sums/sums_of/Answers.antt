use Rattle.std.proofs.Common.{◌≡◌, ◌+◌, List, length, arith, ap, sym, ◌∙◌, subst, rules}
use Rattle.te_model.specs.declared.name.Name.{Name}
use Rattle.te_model.specs.Network.{node_count}
use Rattle.shortest_path.specs.declared.rows.Direction.TheVariants.{Backward}
use Rattle.shortest_path.specs.Rows.{IsSearchGraph}
use Rattle.shortest_path.proofs.Sound.{sound}
use Rattle.tree_embed.proofs.Distances.{SumsSoFar, sums_none, sums_more}
use Rattle.tree_embed.proofs.sums.sums_of.Goals as goal

pub new-requires : goal.new-requires
new-requires c = sound c.args.net.now c.requires.network

pub loop-node-init : goal.loop-node-init
loop-node-init c = (
  c.in_ok-searches.ensures,
  subst (SumsSoFar c.args.net.now c.args.lengths.now 0) (sym c.in_ok-sums.ensures.items) (sums_none c.args.net.now c.args.lengths.now),
)

pub overflow_cast-node : goal.overflow_cast-node
overflow_cast-node c =
    omega (arith, c.loop-node-test.true, ap (λ (l : List Name). length l) c.as_slice-nodes.ensures, (sound c.args.net.now c.requires.network).few)

pub sums_toward-requires-clause-node : goal.sums_toward-requires-clause-node
sums_toward-requires-clause-node c = omega (arith, c.loop-node-test.true, ap (λ (l : List Name). length l) c.as_slice-nodes.ensures)

pub sums_toward-requires-clause-against : goal.sums_toward-requires-clause-against
sums_toward-requires-clause-against c = c.loop-node.invariant.0

pub sums_toward-requires-clause-every : goal.sums_toward-requires-clause-every
sums_toward-requires-clause-every c = search rules

pub sums_toward-requires-clause-limit : goal.sums_toward-requires-clause-limit
sums_toward-requires-clause-limit c = c.requires.limit

pub loop-node-preserved : goal.loop-node-preserved
loop-node-preserved c =
    let net = c.args.net.now in
    let lengths = c.args.lengths.now in
    let node = c.loop-node.node in (
      subst (IsSearchGraph net Backward) (sym c.sums_toward.ensures.same) c.loop-node.invariant.0,
      subst (SumsSoFar net lengths (node + 1)) (sym c.in_ok-push.ensures.items)
          (sums_more net lengths node c.loop-node.sums.items c.in_ok-row.row c.loop-node.invariant.1 c.in_ok-row.ensures.sums),
    )

pub returns : goal.returns
returns c =
    let so_far = c.loop-node.invariant.1 in
    let done : c.loop-node.node ≡ node_count c.args.net.now =
    omega (arith, c.loop-node-test.false, c.loop-node.auto.node-end, ap (λ (l : List Name). length l) c.as_slice-nodes.ensures)
    in
    record { count = so_far.count ∙ done; each = λ t below. so_far.each t (omega (arith, done, below)) }
