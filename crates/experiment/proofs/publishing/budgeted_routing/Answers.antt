use Rattle.std.proofs.Common.{List, ap, sym, subst, ◌∙◌}
use Rattle.te_model.specs.declared.route.PairRoutes.{PairRoutes}
use Rattle.routing.specs.Routes.{IsRoutingOf}
use Rattle.path_budget.specs.Budget.{trimmed_routes}
use Rattle.experiment.proofs.publishing.budgeted_routing.Goals as goal

pub returns-clause-kept : goal.returns-clause-kept
returns-clause-kept g c = (
  c.in_ok-plan.plan,
  c.in_ok-plan.ensures.plan,
  c.in_ok-routing.ensures.trimmed ∙ ap (trimmed_routes c.args.budget) c.fixed.ensures,
)

pub returns-clause-routing : goal.returns-clause-routing
returns-clause-routing g c =
    let net = c.args.net.now in
    let pairs = c.args.pairs.now.list in
    let fixed = g.met.S.Oblivious.fixed_routing c.args.scheme.now net pairs c.in_ok-plan.plan c.in_ok-plan.ensures.plan in
    c.in_ok-routing.ensures.routing net pairs (subst (λ (r : List PairRoutes). IsRoutingOf net pairs r) (sym c.fixed.ensures) fixed)
