use Rattle.std.proofs.Common.{List, length, ap, sym, subst, ◌∙◌}
use Rattle.std.proofs.lemmas.List.{length-map}
use Rattle.te_model.specs.declared.route.Pair.{Pair}
use Rattle.te_model.specs.declared.route.PairRoutes.{PairRoutes}
use Rattle.local_recovery.specs.Spread.{IsSublist}
use Rattle.local_recovery.proofs.SpreadRates.{spread_rates}
use Rattle.series_simulation.proofs.Carried.{carried_count, carried_within}
use Rattle.series_simulation.proofs.step_simulation.simulate.Goals as goal

pub spread-requires : goal.spread-requires
spread-requires c =
    subst (λ (ps : List Pair). IsSublist ps c.args.pairs.now.list) (sym c.in_ok-left.ensures.pairs) c.requires.some

pub step-requires-clause-rates : goal.step-requires-clause-rates
step-requires-clause-rates c =
    spread_rates c.args.net.now c.args.pairs.now.list c.in_ok-left.left.routes c.in_ok-rates.rates.routes c.requires.pairs c.in_ok-left.ensures.paths
    c.in_ok-left.ensures.few c.in_ok-rates.ensures

pub step-requires-clause-demands : goal.step-requires-clause-demands
step-requires-clause-demands c =
    c.requires.demands.count ∙ (sym (ap (λ (ps : List Pair). length ps) c.in_ok-rates.ensures.pairs_are)
    ∙ length-map c.in_ok-rates.rates.routes (λ (r : PairRoutes). r.pair))

pub step-requires-clause-small : goal.step-requires-clause-small
step-requires-clause-small c = λ p below. c.requires.demands.small p 0 below

pub returns-clause-simulated : goal.returns-clause-simulated
returns-clause-simulated c = record {
  left = c.in_ok-left.left.routes;
  recovered = c.in_ok-left.ensures.recovered;
  spread = c.in_ok-rates.ensures;
  per_pair = c.in_ok-result.ensures.pairs;
  carried = c.in_ok-result.ensures.carried;
  totals = c.in_ok-result.ensures.totals;
}

pub returns-clause-conserved : goal.returns-clause-conserved
returns-clause-conserved c = record {
  offered = c.in_ok-result.ensures.offered;
  pairs = c.in_ok-result.ensures.pairs_conserved;
  total = c.in_ok-result.ensures.conserved;
}

pub returns-clause-count : goal.returns-clause-count
returns-clause-count c =
    carried_count c.args.net.now c.args.failed.now c.in_ok-rates.rates.routes c.args.matrix.now.demand c.in_ok-result.result.carried c.in_ok-result.ensures.carried

pub returns-clause-within : goal.returns-clause-within
returns-clause-within c = λ e inside.
    carried_within c.args.net.now c.args.failed.now c.in_ok-rates.rates.routes c.args.matrix.now.demand c.in_ok-result.result.carried c.in_ok-result.ensures.carried
    e inside

pub returns-clause-rates : goal.returns-clause-rates
returns-clause-rates c =
    spread_rates c.args.net.now c.args.pairs.now.list c.in_ok-left.left.routes c.in_ok-rates.rates.routes c.requires.pairs c.in_ok-left.ensures.paths
    c.in_ok-left.ensures.few c.in_ok-rates.ensures
