use Rattle.std.proofs.Common.{sym, subst, arith}
use Rattle.std.proofs.lemmas.List.Elements.{All-weaker}
use Rattle.te_model.specs.Network.{node_count}
use Rattle.te_model.specs.Pairs.{IsNodePair}
use Rattle.local_recovery.specs.Rates.{ArePairs}
use Rattle.measure.proofs.Listed.{IsBelow, listed_ascend, listed_more, listed_on}
use Rattle.measure.proofs.pairs.pairs_from.Goals as goal
use Rattle.measure.proofs.pairs.pairs_from.Goals.{then-pair+in_ok-push, else-pair}

pub returns-clause-ascending : goal.returns-clause-ascending
returns-clause-ascending c =
    let net = c.args.net.now in
    let listed = c.loop-place.invariant in
    subst (ArePairs net) (sym c.new.ensures)
    (record {
      nodes = All-weaker (IsBelow c.loop-place.place) (IsNodePair (node_count net))
          (λ p of. record { src = omega (arith, of.src, c.requires.nodes); dst = omega (arith, of.dst, c.requires.nodes) }) c.loop-place.list.items listed.each;
      ascending = listed_ascend c.loop-place.place c.loop-place.list.items listed;
    })

pub loop-place-preserved : goal.loop-place-preserved
loop-place-preserved c =
    let place = c.loop-place.place in
    elim c.if-pair.branch [
      | then-pair+in_ok-push w ↦
          rw (w.list-is, w.in_ok-push.ensures.items)
          (listed_more place c.loop-place.list.items _ (omega (arith, c.loop-place-test.true, c.requires.sources)) (omega arith) w.if-pair.true (omega arith)
          c.loop-place.invariant)
      | else-pair w ↦ rw w.list-is (listed_on place c.loop-place.list.items c.loop-place.invariant)
    ]
