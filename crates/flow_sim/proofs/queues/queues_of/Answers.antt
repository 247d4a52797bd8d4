use Rattle.std.proofs.Common.{◌≡◌, ℕ, ◌+◌, ◌<◌, All, List, [], length, arith, refl, ap, sym, subst, ◌∙◌, inl, inr}
use Rattle.std.proofs.lemmas.Bool.{cases_lt}
use Rattle.std.proofs.lemmas.List.{get_or_past}
use Rattle.std.specs.Prelude.{slice_index_or}
use Rattle.te_model.specs.declared.route.PairRoutes.{PairRoutes}
use Rattle.flow_sim.specs.Queues.{HasRoom, AreAdded, AreQueues}
use Rattle.flow_sim.specs.Traffic.{concat_below, paths_of}
use Rattle.flow_sim.proofs.QueueLaws.{concat_next, flows_next, flows_within, paths_read, room_for, queues_more}
use Rattle.flow_sim.proofs.TableLaws.{written}
use Rattle.flow_sim.proofs.queues.queues_of.Goals as goal

-- no flow stands in empty queues
queues_none : (links : ℕ) (rounds : List (List (List ℕ))) → All (λ r. (length r ≡ links) × All (λ q. q ≡ []) r) rounds → AreQueues [] links rounds
queues_none links rounds all = record {
  queues = λ r below. (all r [] below).0;
  asking = λ r e inside. elim (cases_lt r (length rounds)) [
    | inl lt ↦ (all r [] lt).1 e [] inside
    | inr ge ↦ absurd (omega (arith, inside, ap length (get_or_past rounds r [] ge)))
  ];
}

pub loop-p-init : goal.loop-p-init
loop-p-init c = record {
  first = refl;
  rounds = omega (arith, c.in_ok-list.ensures.0, c.in_ok-list.list.ok.0);
  queues = queues_none c.args.links c.in_ok-list.list.items c.in_ok-list.ensures.1;
}

pub add_paths-requires-clause-room : goal.add_paths-requires-clause-room
add_paths-requires-clause-room c = λ k d below.
    let rates = c.args.rates.now in
    let p = c.loop-p.p in
    let inside : p < length rates = subst (λ (rs : List PairRoutes). p < length rs) c.as_slice-pairs.ensures c.loop-p-test.true in
    let paths = paths_read rates c.as_slice-pairs.result.now p c.index-pairs-p.result c.as_slice-paths.result.now
    c.as_slice-pairs.ensures c.loop-p-test.true c.as_slice-paths.ensures in
    subst (λ rs. HasRoom rs (slice_index_or c.as_slice-paths.result.now k d)) (sym c.deref_mut.ensures.value)
    (room_for rates c.args.links c.args.rounds c.loop-p.list.items (concat_below p (paths_of rates)) p c.as_slice-paths.result.now
    inside paths (c.requires.links p inside) c.requires.rounds c.loop-p.invariant.rounds c.loop-p.invariant.queues k d below)

pub add_paths-requires-clause-numbers : goal.add_paths-requires-clause-numbers
add_paths-requires-clause-numbers c =
    let rates = c.args.rates.now in
    let p = c.loop-p.p in
    let inside : p < length rates = subst (λ (rs : List PairRoutes). p < length rs) c.as_slice-pairs.ensures c.loop-p-test.true in
    let paths = paths_read rates c.as_slice-pairs.result.now p c.index-pairs-p.result c.as_slice-paths.result.now
    c.as_slice-pairs.ensures c.loop-p-test.true c.as_slice-paths.ensures in
    flows_within rates p c.loop-p.first c.as_slice-paths.result.now inside c.requires.pairs c.requires.few c.loop-p.invariant.first paths

pub overflow_cast-first : goal.overflow_cast-first
overflow_cast-first c =
    let rates = c.args.rates.now in
    let p = c.loop-p.p in
    let inside : p < length rates = subst (λ (rs : List PairRoutes). p < length rs) c.as_slice-pairs.ensures c.loop-p-test.true in
    let paths = paths_read rates c.as_slice-pairs.result.now p c.index-pairs-p.result c.as_slice-paths.result.now
    c.as_slice-pairs.ensures c.loop-p-test.true c.as_slice-paths.ensures in
    omega (arith, ap length paths, c.requires.few p inside)

pub overflow_add-first : goal.overflow_add-first
overflow_add-first c =
    let rates = c.args.rates.now in
    let p = c.loop-p.p in
    let inside : p < length rates = subst (λ (rs : List PairRoutes). p < length rs) c.as_slice-pairs.ensures c.loop-p-test.true in
    let paths = paths_read rates c.as_slice-pairs.result.now p c.index-pairs-p.result c.as_slice-paths.result.now
    c.as_slice-pairs.ensures c.loop-p-test.true c.as_slice-paths.ensures in
    omega (arith, flows_within rates p c.loop-p.first c.as_slice-paths.result.now inside c.requires.pairs c.requires.few c.loop-p.invariant.first paths)

pub loop-p-preserved : goal.loop-p-preserved
loop-p-preserved c =
    let rates = c.args.rates.now in
    let p = c.loop-p.p in
    let items = c.loop-p.list.items in
    let new = c.add_paths.new.rounds in
    let paths = paths_read rates c.as_slice-pairs.result.now p c.index-pairs-p.result c.as_slice-paths.result.now
    c.as_slice-pairs.ensures c.loop-p-test.true c.as_slice-paths.ensures in
    let lent : AreAdded c.loop-p.first c.as_slice-paths.result.now items new =
    subst (λ rs. AreAdded c.loop-p.first c.as_slice-paths.result.now rs new) c.deref_mut.ensures.value c.in_ok-add_paths.ensures in
    let added : AreAdded (length (concat_below p (paths_of rates))) (paths_of rates p) items new =
    subst (λ n. AreAdded n (paths_of rates p) items new) c.loop-p.invariant.first
    (subst (λ ps. AreAdded c.loop-p.first ps items new) paths lent) in
    let whole = written new items c.loop-p.list.len (omega (arith, lent.alike.rounds, c.loop-p.list.ok.0)) in
    record {
      first = omega (arith, c.loop-p.invariant.first, flows_next p (paths_of rates), ap length paths);
      rounds = ap length whole ∙ (lent.alike.rounds ∙ c.loop-p.invariant.rounds);
      queues = subst (AreQueues (concat_below (p + 1) (paths_of rates)) c.args.links) (sym whole)
          (subst (λ ps. AreQueues ps c.args.links new) (sym (concat_next p (paths_of rates)))
          (queues_more c.args.links (concat_below p (paths_of rates)) (paths_of rates p) items new c.loop-p.invariant.queues added));
    }
