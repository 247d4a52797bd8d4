use Rattle.std.proofs.Common.{◌==◌, Bool, true, false, not, [], sym, arith}
use Rattle.std.proofs.lemmas.Bool.Decides.{nat_tests}
use Rattle.std.proofs.lemmas.List.Elements.{All-append, All-cons}
use Rattle.te_model.specs.declared.route.Pair.{Pair}
use Rattle.te_model.specs.Pairs.{IsNodePair}
use Rattle.traffic_matrix.specs.Pairs.{pair_of_place}
use Rattle.traffic_matrix.proofs.DemandLemmas.{pair-within, pairs-more}
use Rattle.traffic_matrix.proofs.generator.every_pair.Goals as goal
use Rattle.traffic_matrix.proofs.generator.every_pair.Goals.{then-pair+in_ok-push, else-pair}

pub loop-place-preserved : goal.loop-place-preserved
loop-place-preserved c =
    let i = c.loop-place.invariant in
    let n = c.args.nodes in
    let k = c.loop-place.place in
    let test : Pair → Bool = λ p. not (p.src == p.dst) in
    let within = pair-within n k c.loop-place-test.true in
    elim c.if-pair.branch [
      | then-pair+in_ok-push w ↦ record {
        pairs = rw (w.pairs-is, w.in_ok-push.ensures.items, i.pairs) (sym (pairs-more test n k true (let differ = w.if-pair.true in grind (arith, nat_tests))));
        within = rw (w.pairs-is, w.in_ok-push.ensures.items) (All-append (IsNodePair n) _ _ i.within (All-cons (IsNodePair n) (pair_of_place n k) [] within (λ j d l. absurd (omega arith))));
      }
      | else-pair w ↦ record {
        pairs = rw (w.pairs-is, i.pairs) (sym (pairs-more test n k false (let same = w.if-pair.false in grind (arith, nat_tests))));
        within = rw w.pairs-is i.within;
      }
    ]
