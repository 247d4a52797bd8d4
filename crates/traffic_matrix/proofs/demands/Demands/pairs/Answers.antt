use Rattle.std.proofs.Common.{ℕ, ◌∙◌, List, [], sym, subst, true, false, arith}
use Rattle.std.proofs.lemmas.List.Elements.{All-append, All-cons}
use Rattle.te_model.specs.Pairs.{IsNodePair}
use Rattle.traffic_matrix.specs.declared.entry.Entry.{Entry}
use Rattle.traffic_matrix.specs.Pairs.{pair_of_place}
use Rattle.traffic_matrix.specs.Series.{is_declared}
use Rattle.traffic_matrix.specs.Shows.{Shows}
use Rattle.traffic_matrix.proofs.DemandLemmas.{pair-within, pairs-more}
use Rattle.traffic_matrix.proofs.demands.Demands.pairs.Goals as goal
use Rattle.traffic_matrix.proofs.demands.Demands.pairs.Goals.{then-is_declared+in_ok-push, else-is_declared}

pub loop-place-preserved : goal.loop-place-preserved
loop-place-preserved c =
    let i = c.loop-place.invariant in
    let n = c.nodes-nodes.result in
    let k = c.loop-place.place in
    let within = pair-within n k c.loop-place-test.true in
    let bit = λ (entries : List Entry) (s : Shows entries c.args.self.now). sym (s.declared (pair_of_place n k) (subst (λ (m : ℕ). IsNodePair m (pair_of_place n k)) i.nodes within)) in
    elim c.if-is_declared.branch [
      | then-is_declared+in_ok-push w ↦ record {
        pairs = λ entries s. rw (w.pairs-is, w.in_ok-push.ensures.items, i.pairs entries s) (sym (pairs-more (is_declared entries) n k true (bit entries s ∙ sym c.is_declared.ensures ∙ w.if-is_declared.true)));
        within = rw (w.pairs-is, w.in_ok-push.ensures.items) (All-append (IsNodePair n) _ _ i.within (All-cons (IsNodePair n) (pair_of_place n k) [] within (λ j d l. absurd (omega arith))));
        nodes = i.nodes;
      }
      | else-is_declared w ↦ record {
        pairs = λ entries s. rw (w.pairs-is, i.pairs entries s) (sym (pairs-more (is_declared entries) n k false (bit entries s ∙ sym c.is_declared.ensures ∙ w.if-is_declared.false)));
        within = rw w.pairs-is i.within;
        nodes = i.nodes;
      }
    ]

pub is_declared-requires : goal.is_declared-requires
is_declared-requires c = rw (← c.nodes-nodes.ensures) (pair-within c.nodes-nodes.result c.loop-place.place c.loop-place-test.true)
