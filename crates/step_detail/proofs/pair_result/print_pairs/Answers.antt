use Rattle.std.proofs.Common.{◌≡◌, ◌<◌, ℕ, true, List, ◌++◌, All, length, get_or, arith, ap, sym, subst, refl, ◌∙◌}
use Rattle.std.specs.List.{flat_map, range_with_len}
use Rattle.std.proofs.lemmas.List.{get_or_read}
use Rattle.std.proofs.lemmas.List.Elements.{All-get_or}
use Rattle.te_model.specs.declared.route.PairRoutes.{PairRoutes}
use Rattle.te_model.specs.declared.route.PathShare.{PathShare}
use Rattle.te_model.specs.Network.{node_count}
use Rattle.te_model.specs.Pairs.{IsNodePair}
use Rattle.te_model.specs.Path.{is_path, no_routes, routes_at}
use Rattle.te_model.proofs.Tests.{list_all_at}
use Rattle.shortest_path.specs.Costs.{HasCosts}
use Rattle.local_recovery.specs.Rates.{has_rates}
use Rattle.flow_sim.specs.declared.result.PairResult.{PairResult}
use Rattle.step_detail.specs.Pairs.{least_cost_at, line_of_pair, no_result, pair_result_line}
use Rattle.te_model.proofs.Lists.{pieces_more}
use Rattle.step_detail.proofs.Pairs.{pair_of_nodes}
use Rattle.step_detail.proofs.pair_result.print_pairs.Goals as goal

pub bounds-results-p : goal.bounds-results-p
bounds-results-p c =
    omega (
      arith,
      c.loop-p-test.true,
      ap (λ (l : List PairRoutes). length l) c.as_slice-routes.ensures,
      ap (λ (l : List PairResult). length l) c.as_slice-results.ensures,
      c.requires.results,
    )

pub bounds-least-p : goal.bounds-least-p
bounds-least-p c = omega (arith, c.loop-p-test.true, ap (λ (l : List PairRoutes). length l) c.as_slice-routes.ensures, c.requires.least)

pub print_pair-requires-clause-costs : goal.print_pair-requires-clause-costs
print_pair-requires-clause-costs c = subst (λ (l : List ℕ). HasCosts c.args.net.now l) (sym c.as_slice-lengths.ensures.value) c.in_ok-costs.ensures

pub print_pair-requires-clause-pair : goal.print_pair-requires-clause-pair
print_pair-requires-clause-pair c =
    let rates = c.args.step.now.rates.routes in
    let p = c.loop-p.p in
    let inside : p < length rates = omega (arith, c.loop-p-test.true, ap (λ (l : List PairRoutes). length l) c.as_slice-routes.ensures) in
    let routes : c.index-routes-p.result ≡ routes_at rates p =
    get_or_read c.as_slice-routes.result.now p c.index-routes-p.result c.loop-p-test.true c.index-routes-p.is no_routes
    ∙ ap (λ (rs : List PairRoutes). routes_at rs p) c.as_slice-routes.ensures
    in
    subst (λ (r : PairRoutes). IsNodePair (node_count c.args.net.now) r.pair) (sym routes) (pair_of_nodes c.args.net.now rates p c.requires.rates inside)

pub print_pair-requires-clause-paths : goal.print_pair-requires-clause-paths
print_pair-requires-clause-paths c =
    let net = c.args.net.now in
    let rates = c.args.step.now.rates.routes in
    let p = c.loop-p.p in
    let inside : p < length rates = omega (arith, c.loop-p-test.true, ap (λ (l : List PairRoutes). length l) c.as_slice-routes.ensures) in
    let routes : c.index-routes-p.result ≡ routes_at rates p =
    get_or_read c.as_slice-routes.result.now p c.index-routes-p.result c.loop-p-test.true c.index-routes-p.is no_routes
    ∙ ap (λ (rs : List PairRoutes). routes_at rs p) c.as_slice-routes.ensures
    in
    subst (λ (r : PairRoutes). All (λ (s : PathShare). is_path net r.pair.src r.pair.dst s.links ≡ true) r.paths) (sym routes)
    (All-get_or (λ (r : PairRoutes). All (λ (s : PathShare). is_path net r.pair.src r.pair.dst s.links ≡ true) r.paths) rates p no_routes inside c.requires.rates.paths)

pub print_pair-requires-clause-rates : goal.print_pair-requires-clause-rates
print_pair-requires-clause-rates c =
    let rates = c.args.step.now.rates.routes in
    let p = c.loop-p.p in
    let routes : c.index-routes-p.result ≡ routes_at rates p =
    get_or_read c.as_slice-routes.result.now p c.index-routes-p.result c.loop-p-test.true c.index-routes-p.is no_routes
    ∙ ap (λ (rs : List PairRoutes). routes_at rs p) c.as_slice-routes.ensures
    in
    subst (λ (r : PairRoutes). has_rates r ≡ true) (sym routes) (list_all_at has_rates rates p no_routes c.args.step.now.rates.rates refl)

pub loop-p-preserved : goal.loop-p-preserved
loop-p-preserved c =
    let net = c.args.net.now in
    let word = c.args.word.now in
    let step = c.args.step.now in
    let least = c.args.least.now in
    let p = c.loop-p.p in
    let routes : c.index-routes-p.result ≡ routes_at step.rates.routes p =
    get_or_read c.as_slice-routes.result.now p c.index-routes-p.result c.loop-p-test.true c.index-routes-p.is no_routes
    ∙ ap (λ (rs : List PairRoutes). routes_at rs p) c.as_slice-routes.ensures
    in
    let line : pair_result_line net word c.index-routes-p.result (get_or c.as_slice-results.result.now p no_result) (least_cost_at least p)
    ≡ line_of_pair net least word step p =
    ap (λ (r : PairRoutes). pair_result_line net word r (get_or c.as_slice-results.result.now p no_result) (least_cost_at least p)) routes
    ∙ ap (λ (rs : List PairResult). pair_result_line net word (routes_at step.rates.routes p) (get_or rs p no_result) (least_cost_at least p)) c.as_slice-results.ensures
    in
    c.in_ok-print_pair.ensures
    ∙ (ap (λ (l : List ℕ). c.loop-p.text.items ++ l) line
    ∙ (ap (λ (t : List ℕ). t ++ line_of_pair net least word step p) c.loop-p.invariant
    ∙ pieces_more c.args.text.now.items (line_of_pair net least word step) p))

pub returns : goal.returns
returns c =
    let step = c.args.step.now in
    let done : c.loop-p.p ≡ length step.rates.routes =
    omega (arith, c.loop-p-test.false, c.loop-p.auto.p-end, ap (λ (l : List PairRoutes). length l) c.as_slice-routes.ensures)
    in
    c.loop-p.invariant
    ∙ ap (λ n. c.args.text.now.items ++ flat_map (line_of_pair c.args.net.now c.args.least.now c.args.word.now step) (range_with_len 0 n)) done
