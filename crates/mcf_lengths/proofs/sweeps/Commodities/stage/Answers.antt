use Rattle.std.proofs.Common.{inl, inr, ◌≡◌, ℕ, ◌+◌, ◌-◌, ◌≤◌, ◌^◌, List, All, length, map, arith, ap, sym, ◌∙◌, subst}
use Rattle.std.proofs.lemmas.List.{length-map}
use Rattle.std.proofs.lemmas.Bool.{cases_lt}
use Rattle.te_model.specs.declared.route.Path.{Path}
use Rattle.te_model.specs.Pairs.{AreDemands}
use Rattle.shortest_path.specs.declared.rows.Direction.TheVariants.{Backward}
use Rattle.shortest_path.specs.Rows.{IsSearchGraph}
use Rattle.shortest_path.proofs.Sound.{sound}
use Rattle.centred_steps.proofs.Weights.{weights_positive, weights_small}
use Rattle.rate_sweeps.specs.declared.mix.Sweep.{Sweep}
use Rattle.rate_sweeps.specs.Sweeps.{AreOnLinks, links_in}
use Rattle.mcf_lengths.specs.Sweeps.{AreLeastSweeps}
use Rattle.mcf_lengths.proofs.Sweeping.{least_on_links, sweeps_more}
use Rattle.mcf_lengths.proofs.sweeps.Commodities.stage.Goals as goal

pub with_orders-requires : goal.with_orders-requires
with_orders-requires c = sound c.args.self.now.net.now c.requires.commodities.network

pub least_paths_with-requires-clause-against : goal.least_paths_with-requires-clause-against
least_paths_with-requires-clause-against c = c.loop-i.invariant.2

pub least_paths_with-requires-clause-lengths : goal.least_paths_with-requires-clause-lengths
least_paths_with-requires-clause-lengths c = ap (λ (l : List ℕ). length l) c.deref.ensures.value ∙ c.loop-i.invariant.0.count

pub least_paths_with-requires-clause-limit : goal.least_paths_with-requires-clause-limit
least_paths_with-requires-clause-limit c =
    subst (All (λ (l : ℕ). l ≤ 2 ^ 28)) (sym c.deref.ensures.value) (weights_small _ c.loop-i.invariant.0.lengths)

pub least_paths_with-requires-clause-positive : goal.least_paths_with-requires-clause-positive
least_paths_with-requires-clause-positive c =
    subst (All (λ (l : ℕ). 1 ≤ l)) (sym c.deref.ensures.value) (weights_positive _ c.loop-i.invariant.0.lengths)

pub take_sweep-requires-clause-demands : goal.take_sweep-requires-clause-demands
take_sweep-requires-clause-demands c =
    let paths = c.in_ok-paths.paths.items in
    let count = sym c.in_ok-paths.ensures.paths.count ∙ (length-map paths links_in ∙ ap (λ (l : List Path). length l) (sym c.deref-in-loop-i.ensures.value)) in
    subst (λ n. AreDemands n c.args.self.now.matrix.now.demand) count c.requires.commodities.demands

pub take_sweep-requires-clause-paths : goal.take_sweep-requires-clause-paths
take_sweep-requires-clause-paths c =
    let net = c.args.self.now.net.now in
    subst (λ (l : List Path). AreOnLinks net (map links_in l)) (sym c.deref-in-loop-i.ensures.value)
    (least_on_links net c.deref.result.now c.args.self.now.pairs.now.list (map links_in c.in_ok-paths.paths.items) c.in_ok-paths.ensures.paths)

pub loop-i-preserved : goal.loop-i-preserved
loop-i-preserved c =
    let net = c.args.self.now.net.now in
    let pairs = c.args.self.now.pairs.now.list in
    let i = c.loop-i.i in
    let lengths = c.deref.result.now in
    let sweeps = c.loop-i.sweeps.items in
    let s : Sweep = record { weight = c.in_ok-weight.weight; paths = c.in_ok-paths.paths.items } in
    let far = c.loop-i.invariant.1 in (
      c.take_sweep.ensures.state,
      elim (cases_lt i 10) [
        | inl lt ↦
            let same : i - 10 ≡ i + 1 - 10 = omega (arith, lt) in
            subst (AreLeastSweeps (i + 1 - 10) net pairs) (sym (c.in_ok-add_counted.ensures.uncounted lt)) (subst (λ (n : ℕ). AreLeastSweeps n net pairs sweeps) same far)
        | inr ge ↦
            subst (AreLeastSweeps (i + 1 - 10) net pairs) (sym (c.in_ok-add_counted.ensures.counted ge))
            (sweeps_more (i - 10) (i + 1 - 10) net pairs sweeps s far (omega (arith, ge)) c.in_ok-weight.ensures.weight (lengths, c.in_ok-paths.ensures.paths))
      ],
      subst (IsSearchGraph net Backward) (sym c.in_ok-paths.ensures.same) c.loop-i.invariant.2,
    )

pub returns-clause-sweeps : goal.returns-clause-sweeps
returns-clause-sweeps c =
    let done : c.loop-i.i - 10 ≡ 30 = omega (arith, c.loop-i-test.false, c.loop-i.auto.i-end) in
    subst (λ (n : ℕ). AreLeastSweeps n c.args.self.now.net.now c.args.self.now.pairs.now.list c.loop-i.sweeps.items) done c.loop-i.invariant.1
