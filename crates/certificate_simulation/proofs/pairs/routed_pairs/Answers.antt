use Rattle.std.proofs.Common.{◌∙◌, ◌∷◌, ◌++◌, List, [], ap, map, sym, take}
use Rattle.std.proofs.lemmas.List.{map_more, take_all}
use Rattle.te_model.specs.declared.route.Pair.{Pair}
use Rattle.te_model.specs.declared.route.PairRoutes.{PairRoutes}
use Rattle.certificate_simulation.proofs.pairs.routed_pairs.Goals as goal

pub loop-route-preserved : goal.loop-route-preserved
loop-route-preserved c =
    let routes = c.args.routes.now in
    let i = c.loop-route.route-index in
    let route = c.route-item.result in
    c.in_ok-push.ensures.items
    ∙ (ap (λ (ps : List Pair). ps ++ route.pair ∷ []) c.loop-route.invariant
    ∙ sym (map_more (λ (r : PairRoutes). r.pair) routes i route c.loop-route-test.true
    ∙ ap (λ (r : PairRoutes). map (λ (q : PairRoutes). q.pair) (take i routes) ++ r.pair ∷ []) (sym c.route-item.is)))

pub returns : goal.returns
returns c =
    c.loop-route.invariant
    ∙ ap (λ (rs : List PairRoutes). map (λ (r : PairRoutes). r.pair) rs) (take_all c.loop-route.route-index c.args.routes.now c.loop-route-test.false)
