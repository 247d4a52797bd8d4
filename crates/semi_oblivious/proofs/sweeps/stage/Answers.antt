use Rattle.std.proofs.Common.{inl, inr, ◌≡◌, ℕ, ◌+◌, ◌-◌, ◌≤◌, ◌^◌, List, All, length, map, arith, ap, sym, ◌∙◌, subst}
use Rattle.std.proofs.lemmas.List.{length-map}
use Rattle.std.proofs.lemmas.Bool.{cases_lt}
use Rattle.te_model.specs.declared.route.Path.{Path}
use Rattle.te_model.specs.Pairs.{AreDemands}
use Rattle.rate_sweeps.specs.declared.mix.Sweep.{Sweep}
use Rattle.rate_sweeps.specs.Choices.{AreCheapest}
use Rattle.rate_sweeps.specs.Sweeps.{AreOnLinks, links_in, paths_in}
use Rattle.centred_steps.proofs.Weights.{weights_positive, weights_small}
use Rattle.rate_sweeps.proofs.PathLinks.{ways_on_links}
use Rattle.semi_oblivious.specs.Sweeps.{AreFixedSweeps, IsCheapestSweep}
use Rattle.semi_oblivious.proofs.Sweeping.{sweeps_more}
use Rattle.semi_oblivious.proofs.sweeps.stage.Goals as goal

pub cheapest_paths-requires-clause-lengths : goal.cheapest_paths-requires-clause-lengths
cheapest_paths-requires-clause-lengths c = ap (λ (l : List ℕ). length l) c.deref.ensures.value ∙ c.loop-i.invariant.0.count

pub cheapest_paths-requires-clause-limit : goal.cheapest_paths-requires-clause-limit
cheapest_paths-requires-clause-limit c =
    subst (All (λ (l : ℕ). l ≤ 2 ^ 28)) (sym c.deref.ensures.value) (weights_small c.loop-i.state.lengths.items c.loop-i.invariant.0.lengths)

pub take_sweep-requires-clause-demands : goal.take_sweep-requires-clause-demands
take_sweep-requires-clause-demands c =
    let paths = c.in_ok-paths.paths.items in
    let count = sym c.in_ok-paths.ensures.ways.count ∙ (length-map paths links_in ∙ ap (λ (l : List Path). length l) (sym c.deref-in-loop-i.ensures.value)) in
    subst (λ n. AreDemands n c.args.matrix.now.demand) count c.requires.demands

pub take_sweep-requires-clause-paths : goal.take_sweep-requires-clause-paths
take_sweep-requires-clause-paths c =
    let net = c.args.net.now in
    subst (λ (l : List Path). AreOnLinks net (map links_in l)) (sym c.deref-in-loop-i.ensures.value)
    (ways_on_links net c.args.fixed.now.routes (map links_in c.in_ok-paths.paths.items) c.in_ok-paths.ensures.ways)

pub loop-i-preserved : goal.loop-i-preserved
loop-i-preserved c =
    let net = c.args.net.now in
    let fixed = c.args.fixed.now.routes in
    let i = c.loop-i.i in
    let sweeps = c.loop-i.sweeps.items in
    let s : Sweep = record { weight = c.in_ok-weight.weight; paths = c.in_ok-paths.paths.items } in
    let taken = c.in_ok-paths.ensures in
    let state = c.loop-i.invariant.0 in
    let far = c.loop-i.invariant.1 in
    let cheapest : IsCheapestSweep net fixed s =
    record {
      lengths = c.loop-i.state.lengths.items;
      count = state.count;
      positive = weights_positive c.loop-i.state.lengths.items state.lengths;
      cheapest = subst (λ (l : List ℕ). AreCheapest l fixed (paths_in s)) c.deref.ensures.value taken.cheapest;
    }
    in (
      c.take_sweep.ensures.state,
      elim (cases_lt i 10) [
        | inl lt ↦
            let same : i - 10 ≡ i + 1 - 10 = omega (arith, lt) in
            subst (AreFixedSweeps (i + 1 - 10) net fixed) (sym (c.in_ok-add_counted.ensures.uncounted lt)) (subst (λ (n : ℕ). AreFixedSweeps n net fixed sweeps) same far)
        | inr ge ↦
            subst (AreFixedSweeps (i + 1 - 10) net fixed) (sym (c.in_ok-add_counted.ensures.counted ge))
            (sweeps_more (i - 10) (i + 1 - 10) net fixed sweeps s far (omega (arith, ge)) c.in_ok-weight.ensures.weight taken.ways taken.among cheapest)
      ],
    )

pub returns-clause-sweeps : goal.returns-clause-sweeps
returns-clause-sweeps c =
    let done : c.loop-i.i - 10 ≡ 30 = omega (arith, c.loop-i-test.false, c.loop-i.auto.i-end) in
    subst (λ (n : ℕ). AreFixedSweeps n c.args.net.now c.args.fixed.now.routes c.loop-i.sweeps.items) done c.loop-i.invariant.1
