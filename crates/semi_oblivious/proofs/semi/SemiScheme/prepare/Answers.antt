use Rattle.std.proofs.Common.{List, ap, sym, subst, ◌∙◌}
use Rattle.te_model.specs.declared.route.PairRoutes.{PairRoutes}
use Rattle.routing.specs.Routes.{IsRoutingOf}
use Rattle.path_budget.specs.Budget.{trimmed_routes}
use Rattle.semi_oblivious.proofs.semi.SemiScheme.prepare.Goals as goal

pub returns-clause-plan : goal.returns-clause-plan
returns-clause-plan g c =
    let net = c.args.net.now in
    let pairs = c.args.pairs.now.list in
    let base = g.met.S.Oblivious.fixed_routing c.args.self.now.base net pairs c.in_ok-base.base c.in_ok-base.ensures.plan in
    let lent = subst (λ (r : List PairRoutes). IsRoutingOf net pairs r) (sym c.fixed.ensures) base in (
      c.in_ok-base.ensures.plan,
      record {
        ends = c.requires.pairs;
        heaviest = c.in_ok-fixed.ensures.trimmed ∙ ap (trimmed_routes c.args.self.now.budget) c.fixed.ensures;
        routing = c.in_ok-fixed.ensures.routing net pairs lent;
        few = c.in_ok-fixed.ensures.few;
      },
    )
