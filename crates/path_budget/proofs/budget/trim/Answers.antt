use Rattle.std.proofs.Common.{◌≡◌, List, true, length, arith, ap, sym, ◌∙◌, subst, ◌<◌, ◌++◌, ◌∷◌, [], map, take, get_or}
use Rattle.std.proofs.lemmas.List.{take_all, map_more}
use Rattle.te_model.specs.declared.route.PairRoutes.{PairRoutes}
use Rattle.routing.specs.Routes.{IsRoutingOf, HasFewPaths}
use Rattle.routing.specs.Split.{are_splits}
use Rattle.path_budget.specs.Budget.{trimmed_routes, trimmed_pair}
use Rattle.path_budget.proofs.Trimming.{trimmed_routing, trimmed_splits, trimmed_has_few}
use Rattle.path_budget.proofs.budget.trim.Goals as goal

pub returns-clause-trimmed : goal.returns-clause-trimmed
returns-clause-trimmed c =
    let routes = c.args.routing.now.routes in
    let every = take_all c.loop-route.route-index routes (omega (arith, c.loop-route-test.false, ap (λ (l : List PairRoutes). length l) c.as_slice-route-items.ensures)) in
    c.new.ensures ∙ (c.loop-route.invariant ∙ ap (trimmed_routes c.args.budget) every)

pub invariant_of-result : goal.invariant_of-result
invariant_of-result c =
    let routes = c.args.routing.now.routes in
    let every = take_all c.loop-route.route-index routes (omega (arith, c.loop-route-test.false, ap (λ (l : List PairRoutes). length l) c.as_slice-route-items.ensures)) in
    let items : c.loop-route.routes.items ≡ trimmed_routes c.args.budget routes = c.loop-route.invariant ∙ ap (trimmed_routes c.args.budget) every in
    record { splits = subst (λ (l : List PairRoutes). are_splits l ≡ true) (sym (c.new.ensures ∙ items)) (trimmed_splits c.args.budget routes c.requires.some c.args.routing.now.splits) }

pub returns-clause-few : goal.returns-clause-few
returns-clause-few c =
    subst (HasFewPaths c.args.budget) (sym (returns-clause-trimmed c)) (trimmed_has_few c.args.budget c.args.routing.now.routes c.requires.some c.args.routing.now.splits)

pub returns-clause-routing : goal.returns-clause-routing
returns-clause-routing c = λ net pairs is.
    subst (IsRoutingOf net pairs) (sym (returns-clause-trimmed c)) (trimmed_routing c.args.budget net pairs c.args.routing.now.routes c.requires.some is)

pub loop-route-preserved : goal.loop-route-preserved
loop-route-preserved c =
    let routes = c.args.routing.now.routes in
    let i = c.loop-route.route-index in
    let r = c.route-item.result in
    let lent = c.as_slice-route-items.ensures in
    let below : i < length routes = subst (λ (rs : List PairRoutes). i < length rs) lent c.loop-route-test.true in
    let item : r ≡ get_or routes i r = subst (λ (rs : List PairRoutes). r ≡ get_or rs i r) lent c.route-item.is in
    let trimmed = trimmed_pair c.args.budget in
    c.in_ok-push.ensures.items
    ∙ (ap (λ (t : PairRoutes). c.loop-route.routes.items ++ t ∷ []) c.in_ok-trim_pair.ensures
    ∙ (ap (λ (l : List PairRoutes). l ++ trimmed r ∷ []) c.loop-route.invariant
    ∙ (ap (λ (s : PairRoutes). map trimmed (take i routes) ++ trimmed s ∷ []) item
    ∙ sym (map_more trimmed routes i r below))))
