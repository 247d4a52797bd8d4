use Rattle.std.proofs.Common.{◌≡◌, ◌+◌, List, Some, None, length, arith, ap, sym, ◌∙◌, subst, refl}
use Rattle.std.proofs.lemmas.Bool.{false≢true}
use Rattle.te_model.specs.declared.name.Name.{Name}
use Rattle.te_model.specs.Network.{node_count}
use Rattle.shortest_path.specs.declared.rows.Direction.TheVariants.{Backward}
use Rattle.shortest_path.specs.Rows.{IsSearchGraph}
use Rattle.shortest_path.proofs.Sound.{sound}
use Rattle.scheme.specs.Toward.{AreTowards}
use Rattle.scheme.proofs.Towards.{towards_more}
use Rattle.scheme.proofs.fixed.towards_of.Goals as goal
use Rattle.scheme.proofs.fixed.towards_of.Goals.{then-sends_to+in_ok-toward+in_ok-push, else-sends_to+in_ok-push-2}

pub new-requires : goal.new-requires
new-requires g c = sound c.args.net.now c.requires

pub loop-node-preserved : goal.loop-node-preserved
loop-node-preserved g c =
    let net = c.args.net.now in
    let pairs = c.args.pairs.now in
    let is_toward = g.S.PairSplit.is_toward c.args.rule.now net in
    let node = c.loop-node.node in
    let before = c.loop-node.towards.items in
    let far = c.loop-node.invariant in
    elim c.if-sends_to.branch [
      | then-sends_to+in_ok-toward+in_ok-push w ↦ (
        subst (IsSearchGraph net Backward) (sym (w.searches-is ∙ w.in_ok-toward.ensures.same)) far.0,
        subst (AreTowards is_toward (node + 1) pairs) (sym (ap (λ v. v.items) w.towards-is ∙ w.in_ok-push.ensures.items))
            (towards_more is_toward node pairs before (Some w.in_ok-toward.toward) far.1 (λ sends. w.in_ok-toward.ensures.toward)),
      )
      | else-sends_to+in_ok-push-2 w ↦ (
        subst (IsSearchGraph net Backward) (sym w.searches-is) far.0,
        subst (AreTowards is_toward (node + 1) pairs) (sym (ap (λ v. v.items) w.towards-is ∙ w.in_ok-push-2.ensures.items))
            (towards_more is_toward node pairs before None far.1 (λ sends. absurd (false≢true (sym w.if-sends_to.false ∙ (c.sends_to.ensures ∙ sends))))),
      )
    ]

pub returns : goal.returns
returns g c =
    let net = c.args.net.now in
    let every : c.loop-node.node ≡ node_count net =
    omega (arith, c.loop-node-test.false, c.loop-node.auto.node-end, ap (λ (l : List Name). length l) c.as_slice-node-end.ensures)
    in
    subst (λ n. AreTowards (g.S.PairSplit.is_toward c.args.rule.now net) n c.args.pairs.now c.loop-node.towards.items) every c.loop-node.invariant.1

pub loop-node-init : goal.loop-node-init
loop-node-init g c = (
  c.in_ok-searches.ensures,
  subst (AreTowards (g.S.PairSplit.is_toward c.args.rule.now c.args.net.now) 0 c.args.pairs.now) (sym c.new-towards.ensures.items)
      (record { count = refl; each = λ v below sends. absurd (omega (arith, below)) }),
)

pub toward-requires-clause-dst : goal.toward-requires-clause-dst
toward-requires-clause-dst g c = omega (arith, c.loop-node-test.true, ap (λ (l : List Name). length l) c.as_slice-node-end.ensures)

pub overflow_cast-node : goal.overflow_cast-node
overflow_cast-node g c =
    omega (arith, c.loop-node-test.true, ap (λ (l : List Name). length l) c.as_slice-node-end.ensures, (sound c.args.net.now c.requires).few)

pub overflow_cast-node-then-sends_to : goal.overflow_cast-node-then-sends_to
overflow_cast-node-then-sends_to g c =
    omega (arith, c.loop-node-test.true, ap (λ (l : List Name). length l) c.as_slice-node-end.ensures, (sound c.args.net.now c.requires).few)
