use Rattle.std.proofs.Common.{◌≡◌, ◌*◌, ◌<◌, ◌≤◌, ◌^◌, ℕ, All, Bool, List, [], length, slice_index, arith, refl, ap, sym, subst, ◌∙◌}
use Rattle.std.specs.Prelude.{slice_index_or}
use Rattle.std.proofs.lemmas.List.{get_or_default}
use Rattle.te_model.specs.declared.limits.TheConstants.{FORMAT_2}
use Rattle.te_model.specs.declared.network.Network.{Network}
use Rattle.te_model.specs.declared.route.PairRoutes.{PairRoutes}
use Rattle.te_model.specs.declared.route.PathShare.{PathShare}
use Rattle.te_model.specs.Network.{link_count}
use Rattle.te_model.specs.Counting.{sum_below}
use Rattle.te_model.proofs.ApportionLaws.{sum_is_below}
use Rattle.flow_sim.specs.declared.state.State.{State}
use Rattle.flow_sim.specs.Queues.{queues_in, AreQueues}
use Rattle.flow_sim.specs.Serving.{HasShape, AreApart}
use Rattle.flow_sim.specs.State.{IsState}
use Rattle.flow_sim.specs.Step.{Setting}
use Rattle.flow_sim.specs.Traffic.{flow_paths, flow_starts, paths_of, step_setting, CanSplit}
use Rattle.flow_sim.proofs.PairLaws.{starts-flows}
use Rattle.flow_sim.proofs.StartLaws.{starts_fit, state_begins}
use Rattle.flow_sim.proofs.StateLaws.{AreAsking, asking_are, apart_are, asking_fits, lost_fits, state_next}
use Rattle.flow_sim.proofs.rounds.run.Goals as goal

-- the units that the flows start with fit 64 bits
starts_small : (net : Network) (failed : List Bool) (rates : List PairRoutes) (demand : List ℕ) → length rates ≤ FORMAT_2.nodes * FORMAT_2.nodes →
    length demand ≡ length rates → ((p : ℕ) → p < length demand → slice_index demand p ≤ 2 ^ 32) →
    ((p : ℕ) → p < length rates → CanSplit (paths_of rates p)) →
    sum_below (step_setting net failed rates demand).flows (step_setting net failed rates demand).start < 2 ^ 64
starts_small net failed rates demand few same small split =
    omega (
      arith,
      starts_fit rates demand few same small split,
      sum_is_below (flow_starts rates demand),
      ap (λ n. sum_below n (slice_index (flow_starts rates demand))) (starts-flows rates demand),
    )

-- the queues of a round hold the flows that ask
asked : (net : Network) (failed : List Bool) (rates : List PairRoutes) (demand : List ℕ) (queues : List (List (List ℕ))) (round : List (List ℕ))
    (i links : ℕ) → AreQueues (flow_paths rates) links queues → links ≡ link_count net → i < length queues →
    round ≡ slice_index_or queues i round → AreAsking (step_setting net failed rates demand) i round
asked net failed rates demand queues round i links so same below is =
    let here : round ≡ queues_in queues i = is ∙ get_or_default queues i round [] below in
    subst (AreAsking (step_setting net failed rates demand) i) (sym here)
    (asking_are net failed rates demand i queues (subst (λ n. AreQueues (flow_paths rates) n queues) same so) below)

shape_next : (s : Setting) (r links : ℕ) (before after : State) → links ≡ s.links → IsState s r before → HasShape (length before.units.items) links after →
    HasShape s.flows s.links after
shape_next s r links before after same known has = record {
  units = has.units ∙ known.flows;
  lost_full = has.lost_full ∙ known.flows;
  lost_failed = has.lost_failed ∙ known.flows;
  left = has.left ∙ same;
}

pub queues_of-requires-clause-few : goal.queues_of-requires-clause-few
queues_of-requires-clause-few c = λ p below. (c.requires.paths p below).0

pub queues_of-requires-clause-links : goal.queues_of-requires-clause-links
queues_of-requires-clause-links c = λ p below.
    subst (λ n. All (λ (s : PathShare). All (λ e. e < n) s.links) (paths_of c.args.rates.now p)) (sym c.requires.marks) (c.requires.links p below)

pub begin-requires-clause-demands : goal.begin-requires-clause-demands
begin-requires-clause-demands c = c.requires.demands

pub begin-requires-clause-paths : goal.begin-requires-clause-paths
begin-requires-clause-paths c = c.requires.paths

pub loop-number-init : goal.loop-number-init
loop-number-init c =
    state_begins c.args.net.now c.args.failed.now c.args.rates.now c.args.matrix.now.demand c.in_ok-state.state c.in_ok-state.ensures

pub serve_round-requires-clause-apart : goal.serve_round-requires-clause-apart
serve_round-requires-clause-apart c =
    let s = step_setting c.args.net.now c.args.failed.now c.args.rates.now c.args.matrix.now.demand in
    let are = asked c.args.net.now c.args.failed.now c.args.rates.now c.args.matrix.now.demand c.in_ok-queues.queues.items c.index.result.now
    c.loop-number.number (length c.args.failed.now) c.in_ok-queues.ensures.queues c.requires.marks
    (omega (arith, c.loop-number-test.true, c.len-number-end.ensures, c.in_ok-queues.queues.ok.0)) c.index.ensures in
    subst (λ n. AreApart n c.index.result.now) (sym c.loop-number.invariant.flows) (apart_are s c.loop-number.number c.index.result.now are)

pub serve_round-requires-clause-fits : goal.serve_round-requires-clause-fits
serve_round-requires-clause-fits c =
    let s = step_setting c.args.net.now c.args.failed.now c.args.rates.now c.args.matrix.now.demand in
    let are = asked c.args.net.now c.args.failed.now c.args.rates.now c.args.matrix.now.demand c.in_ok-queues.queues.items c.index.result.now
    c.loop-number.number (length c.args.failed.now) c.in_ok-queues.ensures.queues c.requires.marks
    (omega (arith, c.loop-number-test.true, c.len-number-end.ensures, c.in_ok-queues.queues.ok.0)) c.index.ensures in
    let small = starts_small c.args.net.now c.args.failed.now c.args.rates.now c.args.matrix.now.demand c.requires.pairs c.requires.lengths
    c.requires.demands c.requires.paths in
    asking_fits s c.loop-number.number c.index.result.now c.loop-number.state c.loop-number.invariant are small

pub serve_round-requires-clause-room : goal.serve_round-requires-clause-room
serve_round-requires-clause-room c = λ f inside.
    let s = step_setting c.args.net.now c.args.failed.now c.args.rates.now c.args.matrix.now.demand in
    let small = starts_small c.args.net.now c.args.failed.now c.args.rates.now c.args.matrix.now.demand c.requires.pairs c.requires.lengths
    c.requires.demands c.requires.paths in
    lost_fits s c.loop-number.number c.loop-number.state c.loop-number.invariant small f (omega (arith, inside, c.loop-number.invariant.flows))

pub loop-number-preserved : goal.loop-number-preserved
loop-number-preserved c =
    let s = step_setting c.args.net.now c.args.failed.now c.args.rates.now c.args.matrix.now.demand in
    let are = asked c.args.net.now c.args.failed.now c.args.rates.now c.args.matrix.now.demand c.in_ok-queues.queues.items c.index.result.now
    c.loop-number.number (length c.args.failed.now) c.in_ok-queues.ensures.queues c.requires.marks
    (omega (arith, c.loop-number-test.true, c.len-number-end.ensures, c.in_ok-queues.queues.ok.0)) c.index.ensures in
    let r = c.loop-number.number in
    let known = c.loop-number.invariant in
    state_next s r c.args.failed.now c.index.result.now c.loop-number.state c.serve_round.new.state known are (λ e. refl)
    (shape_next s r (length c.args.failed.now) c.loop-number.state c.serve_round.new.state c.requires.marks known c.in_ok-serve_round.ensures.shape)
    c.in_ok-serve_round.ensures.round
