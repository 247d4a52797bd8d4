use Rattle.std.proofs.Common.{◌≡◌, ◌+◌, ◌++◌, ◌∷◌, [], arith, sym, subst, ◌∙◌}
use Rattle.shortest_path.specs.declared.rows.Direction.TheVariants.{Backward}
use Rattle.shortest_path.specs.Rows.{IsSearchGraph}
use Rattle.mcf_lengths.proofs.Marking.{WaysSoFar, ways_done, ways_more}
use Rattle.mcf_lengths.proofs.paths.ways_toward.Goals as goal

pub ways_where-requires-clause-against : goal.ways_where-requires-clause-against
ways_where-requires-clause-against c = subst (IsSearchGraph c.args.net.now Backward) (sym c.loop-node.invariant.0) c.requires.against

pub ways_where-requires-clause-limit : goal.ways_where-requires-clause-limit
ways_where-requires-clause-limit c = c.requires.limit

pub ways_where-requires-clause-positive : goal.ways_where-requires-clause-positive
ways_where-requires-clause-positive c = c.requires.positive

pub ways_where-requires-clause-node : goal.ways_where-requires-clause-node
ways_where-requires-clause-node c = omega (arith, c.loop-node-test.true, c.requires.wanted)

pub loop-node-preserved : goal.loop-node-preserved
loop-node-preserved c =
    let net = c.args.net.now in
    let lengths = c.args.lengths.now in
    let wanted = c.args.wanted.now in
    let v = c.loop-node.node in
    let ways = c.loop-node.ways.items in
    let to = c.in_ok-to.to in
    let pushed : c.push.new.self.items ≡ ways ++ to ∷ [] = c.in_ok-push.ensures.items in (
      c.in_ok-to.ensures.same ∙ c.loop-node.invariant.0,
      subst (WaysSoFar net lengths wanted (v + 1)) (sym pushed) (ways_more net lengths wanted v ways to c.loop-node.invariant.1 c.in_ok-to.ensures.ways),
    )

pub returns-clause-ways : goal.returns-clause-ways
returns-clause-ways c =
    ways_done c.args.net.now c.args.lengths.now c.args.wanted.now c.loop-node.node c.loop-node.ways.items c.loop-node.invariant.1
    (omega (arith, c.loop-node-test.false, c.loop-node.auto.node-end, c.requires.wanted))

pub returns-clause-same : goal.returns-clause-same
returns-clause-same c = c.loop-node.invariant.0
