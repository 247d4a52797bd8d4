use Rattle.std.proofs.Common.{ℕ, ◌^◌, ◌≤◌, List, All, length, map, arith, ap, sym, ◌∙◌, subst}
use Rattle.std.specs.Prelude.{IfOk}
use Rattle.std.proofs.lemmas.Result.{IfOk-weaker}
use Rattle.te_model.specs.declared.route.Path.{Path}
use Rattle.te_model.specs.Pairs.{AreDemands}
use Rattle.routing.specs.Routes.{HasFewPaths}
use Rattle.routing.proofs.InOrder.{routes_count}
use Rattle.rate_sweeps.specs.Descents.{BothKeep, IsTurn}
use Rattle.rate_sweeps.specs.Sweeps.{ArePathsOfPairs, links_in}
use Rattle.centred_steps.proofs.Weights.{weights_small}
use Rattle.rate_sweeps.proofs.Turning.{turn_routing}
use Rattle.mcf_lengths.proofs.sweeps.Commodities.turn.Goals as goal

pub least_turn-requires-clause-routing : goal.least_turn-requires-clause-routing
least_turn-requires-clause-routing c =
    let (start, of, is) = c.requires.descent in
    turn_routing c.args.self.now.net.now c.args.self.now.pairs.now.list c.args.self.now.matrix.now.demand start c.args.descent of is

pub take_turn-requires-clause-descent : goal.take_turn-requires-clause-descent
take_turn-requires-clause-descent c =
    let (start, of, is) = c.requires.descent in
    let count = routes_count c.args.self.now.pairs.now.list start of.in_order in (
      start,
      omega (arith, count, c.requires.commodities.ends.few),
      subst (λ n. AreDemands n c.args.self.now.matrix.now.demand) (sym count) c.requires.commodities.demands,
      is,
    )

pub take_turn-requires-clause-offered : goal.take_turn-requires-clause-offered
take_turn-requires-clause-offered c =
    let net = c.args.self.now.net.now in
    let routes = c.args.descent.routing.routes in
    subst (λ (l : List Path). ArePathsOfPairs net routes (map links_in l)) (sym c.deref.ensures.value) c.in_ok-lengths.ensures.paths

pub take_turn-requires-clause-count : goal.take_turn-requires-clause-count
take_turn-requires-clause-count c = ap (λ (l : List ℕ). length l) c.deref-2.ensures.value ∙ c.in_ok-lengths.ensures.count

pub take_turn-requires-clause-lengths : goal.take_turn-requires-clause-lengths
take_turn-requires-clause-lengths c =
    subst (All (λ (l : ℕ). l ≤ 2 ^ 28)) (sym c.deref-2.ensures.value) (weights_small _ c.in_ok-lengths.ensures.lengths)

pub returns-clause-descent : goal.returns-clause-descent
returns-clause-descent c = c.take_turn.ensures.descent

pub take_turn-requires-clause-limit : goal.take_turn-requires-clause-limit
take_turn-requires-clause-limit c = omega (arith, c.requires.commodities.limit)

pub returns-clause-few : goal.returns-clause-few
returns-clause-few c = λ few.
    let turn = IsTurn 28 (map links_in c.deref.result.now) c.args.descent in
    IfOk-weaker c.take_turn.result turn (BothKeep (HasFewPaths 28)) (λ d made. made.few few)
    (subst (λ n. IfOk c.take_turn.result (IsTurn n (map links_in c.deref.result.now) c.args.descent)) c.requires.commodities.limit c.take_turn.ensures.turn)
