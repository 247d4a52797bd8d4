use Rattle.std.proofs.Common.{◌≤◌, length, arith, ap, sym, subst, ◌∙◌}
use Rattle.std.proofs.lemmas.List.Elements.{All-weaker}
use Rattle.te_model.specs.declared.route.PairRoutes.{PairRoutes}
use Rattle.te_model.specs.PathRouting.{IsPathRouting}
use Rattle.routing.specs.Routes.{HasFewPaths}
use Rattle.local_recovery.specs.Rates.{ArePairs, pairs_of}
use Rattle.measure.proofs.steps.four_paths.Goals as goal

pub recover-requires-clause-routing : goal.recover-requires-clause-routing
recover-requires-clause-routing c =
    subst (IsPathRouting c.args.net.now) (sym c.fixed.ensures) c.in_ok-plan.ensures.plan.routing.splits

pub recover-requires-clause-few : goal.recover-requires-clause-few
recover-requires-clause-few c =
    subst (HasFewPaths 4096) (sym c.fixed.ensures)
    (All-weaker (λ (r : PairRoutes). length r.paths ≤ 32) (λ (r : PairRoutes). length r.paths ≤ 4096) (λ r few. omega (arith, few))
    c.in_ok-plan.plan.routing.routes c.in_ok-plan.ensures.plan.few)

pub returns : goal.returns
returns c = record {
  pairs = subst (ArePairs c.args.net.now)
      (sym (c.in_ok-rates.ensures.pairs ∙ (ap pairs_of c.fixed.ensures ∙ c.in_ok-plan.ensures.plan.routing.in_order))) c.requires.ascending;
  paths = c.in_ok-rates.ensures.paths;
  few = c.in_ok-rates.ensures.few;
}
