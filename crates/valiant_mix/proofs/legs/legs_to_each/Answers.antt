use Rattle.std.proofs.Common.{◌≡◌, ◌+◌, ℕ, List, length, arith, refl, ap, sym, subst}
use Rattle.te_model.specs.declared.name.Name.{Name}
use Rattle.te_model.specs.Network.{node_count}
use Rattle.shortest_path.specs.declared.rows.Direction.TheVariants.{Backward}
use Rattle.shortest_path.specs.Rows.{IsSearchGraph}
use Rattle.shortest_path.proofs.Sound.{sound}
use Rattle.valiant_mix.specs.Legs.{AreLegsTo, AreLegsToEach}
use Rattle.valiant_mix.proofs.Splits.{legs_more}
use Rattle.valiant_mix.proofs.legs.legs_to_each.Goals as goal

pub new-requires : goal.new-requires
new-requires c = sound c.args.net.now c.requires

pub loop-node-init : goal.loop-node-init
loop-node-init c = (
  c.in_ok-searches.ensures,
  subst (AreLegsToEach c.args.net.now 0) (sym c.new-list.ensures.items) (record { count = refl; each = λ v below. absurd (omega (arith, below)) }),
)

pub ways_to-requires-clause-against : goal.ways_to-requires-clause-against
ways_to-requires-clause-against c = c.loop-node.invariant.0

pub legs_to-requires-clause-sound : goal.legs_to-requires-clause-sound
legs_to-requires-clause-sound c = sound c.args.net.now c.requires

pub loop-node-preserved : goal.loop-node-preserved
loop-node-preserved c =
    let net = c.args.net.now in
    let node = c.loop-node.node in
    let far = c.loop-node.invariant in
    let legs = c.in_ok-legs.legs in
    let to : AreLegsTo net node (node_count net) legs.sources =
    subst (λ (t : ℕ). AreLegsTo net t (node_count net) legs.sources) c.in_ok-ways.ensures.dst c.in_ok-legs.ensures
    in (
      subst (IsSearchGraph net Backward) (sym c.in_ok-ways.ensures.same) far.0,
      subst (AreLegsToEach net (node + 1)) (sym c.in_ok-push.ensures.items) (legs_more net node c.loop-node.list.items legs far.1 to),
    )

pub returns : goal.returns
returns c =
    let net = c.args.net.now in
    let end = c.loop-node-test.false in
    let within = c.loop-node.auto.node-end in
    let size = ap (λ (l : List Name). length l) c.as_slice-node-end.ensures in
    let every : c.loop-node.node ≡ node_count net = omega (arith, end, within, size) in
    subst (λ n. AreLegsToEach net n c.loop-node.list.items) every c.loop-node.invariant.1
