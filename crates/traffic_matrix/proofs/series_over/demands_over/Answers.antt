use Rattle.std.proofs.Common.{◌≡◌, ◌++◌, ◌≤◌, List, drop, length, map, append-nil, ap, sym, subst, ◌∙◌, arith}
use Rattle.std.proofs.lemmas.List.{drop_all}
use Rattle.te_model.specs.declared.route.Pair.{Pair}
use Rattle.te_model.proofs.AscendingPairs.{all_ascend}
use Rattle.traffic_matrix.specs.Traffic.{demand_for, has_pair}
use Rattle.traffic_matrix.proofs.PairDemands.{joined, joined-is, other-more, own-more}
use Rattle.traffic_matrix.proofs.series_over.demands_over.Goals as goal
use Rattle.traffic_matrix.proofs.series_over.demands_over.Goals.{then-stands_at+in_ok-push, else-stands_at+in_ok-push-2}

pub loop-pair-preserved : goal.loop-pair-preserved
loop-pair-preserved c =
    let pairs = c.args.pairs.now in
    let own = c.args.own.now in
    let demand = c.args.demand.now in
    let i = c.loop-pair.pair-index in
    let next = c.loop-pair.next in
    elim c.if-stands_at.branch [
      | then-stands_at+in_ok-push w ↦
          rw (w.list-is, w.next-is, w.in_ok-push.ensures.items, w.number_at.ensures)
          (own-more pairs own demand i next c.loop-pair.list.items c.loop-pair-test.true (sym c.stands_at.ensures ∙ w.if-stands_at.true) ∙ c.loop-pair.invariant)
      | else-stands_at+in_ok-push-2 w ↦
          rw (w.list-is, w.next-is, w.in_ok-push-2.ensures.items)
          (other-more pairs own demand i next c.loop-pair.list.items c.loop-pair-test.true (sym c.stands_at.ensures ∙ w.if-stands_at.false) ∙ c.loop-pair.invariant)
    ]

pub returns : goal.returns
returns c =
    let pairs = c.args.pairs.now in
    let own = c.args.own.now in
    let demand = c.args.demand.now in
    let i = c.loop-pair.pair-index in
    let all : length pairs ≤ i = omega (arith, c.loop-pair-test.false) in
    let so_far : c.loop-pair.list.items ++ joined (drop i pairs) (drop c.loop-pair.next own) (drop c.loop-pair.next demand) ≡ joined pairs own demand =
    c.loop-pair.invariant
    in
    let ended : c.loop-pair.list.items ≡ joined pairs own demand =
    sym (append-nil c.loop-pair.list.items)
    ∙ (ap (λ (ps : List Pair). c.loop-pair.list.items ++ joined ps (drop c.loop-pair.next own) (drop c.loop-pair.next demand)) (sym (drop_all i pairs all)) ∙ so_far)
    in
    let by_own = joined-is (has_pair own) pairs demand (all_ascend pairs c.requires.ascending) in
    ended
    ∙ subst (λ (os : List Pair). joined pairs os demand ≡ map (demand_for os demand) pairs) (sym c.requires.own) by_own
