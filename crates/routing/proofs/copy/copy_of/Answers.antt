use Rattle.std.proofs.Common.{◌≡◌, ◌∙◌, ap, sym, ◌++◌, ◌∷◌, [], List, take}
use Rattle.std.proofs.lemmas.List.{take_more, take_all}
use Rattle.te_model.specs.declared.route.PathShare.{PathShare}
use Rattle.te_model.specs.declared.route.PairRoutes.{PairRoutes}
use Rattle.routing.proofs.copy.copy_of.Goals as goal

pub loop-route-preserved : goal.loop-route-preserved
loop-route-preserved c =
    let routes = c.args.routes.now in
    let i = c.loop-route.route-index in
    let route = c.route-item.result in
    let paths : c.new.result ≡ route.paths = c.new.ensures ∙ (c.in_ok-paths.ensures ∙ c.as_slice.ensures) in
    c.in_ok-push.ensures.items
    ∙ (ap (λ (l : List PathShare). c.loop-route.copy.items ++ (record { pair = route.pair; paths = l }) ∷ []) paths
    ∙ (ap (λ (l : List PairRoutes). l ++ route ∷ []) c.loop-route.invariant
    ∙ (ap (λ (r : PairRoutes). take i routes ++ r ∷ []) c.route-item.is
    ∙ sym (take_more routes i route c.loop-route-test.true))))

pub returns : goal.returns
returns c = c.loop-route.invariant ∙ take_all c.loop-route.route-index c.args.routes.now c.loop-route-test.false
