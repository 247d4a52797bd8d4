use Rattle.std.proofs.Common.{◌<◌, ℕ, Bool, List, ap, sym, subst, ◌∙◌}
use Rattle.std.specs.Prelude.{IfNone, IfOk}
use Rattle.te_model.specs.Network.{link_count}
use Rattle.shortest_path.proofs.Sound.{sound}
use Rattle.best_blocks.specs.Need.{need_by}
use Rattle.best_blocks.specs.Under.{IsScaleUnder}
use Rattle.ratio_certificate.specs.Critical.{AreCriticalMarks}
use Rattle.ratio_certificate.specs.Steps.{IsSettledAt}
use Rattle.ratio_certificate.specs.Weighting.{AreWeights}
use Rattle.ratio_certificate.proofs.polish.find_change.Goals as goal

pub critical_sources-requires-clause-weights : goal.critical_sources-requires-clause-weights
critical_sources-requires-clause-weights c =
    subst (AreWeights c.args.problem.now.net.now) (sym c.in_ok-metric.ensures.weights) c.requires.weighting.weights_are

pub find-requires-clause-changes : goal.find-requires-clause-changes
find-requires-clause-changes c =
    let problem = c.args.problem.now in
    let net = problem.net.now in
    let routes = problem.routing.now.routes in
    let w = c.args.weighting.now in
    let is = c.requires.weighting in
    let same = sym c.in_ok-metric.ensures.weights in
    record {
      problem = c.requires.problem;
      shared = c.requires.shared;
      metric = c.in_ok-metric.ensures.metric;
      weights = subst (AreWeights net) same is.weights_are;
      scale = subst (λ e. IsScaleUnder net routes problem.set.now e c.in_ok-metric.metric.weights w.a w.b) c.requires.link
          (subst (λ (ws : List ℕ). IsScaleUnder net routes problem.set.now w.link ws w.a w.b) same is.scale_is);
      need_is = is.need_is ∙ ap (λ e. need_by net e w.weights w.a w.b) c.requires.link ∙ ap (λ (ws : List ℕ). need_by net c.args.shared.now.link ws w.a w.b) same;
      critical = subst (λ (ms : List Bool). AreCriticalMarks net routes problem.set.now c.args.shared.now c.in_ok-metric.metric.weights ms) (sym c.deref.ensures.value)
          c.in_ok-critical.ensures;
    }

pub returns-clause-none : goal.returns-clause-none
returns-clause-none c =
    let net = c.args.problem.now.net.now in
    let routes = c.args.problem.now.routing.now.routes in
    let wanted = c.args.problem.now.set.now in
    subst (λ (ws : List ℕ). IfOk c.find.result (λ o. IfNone o ((h : ℕ) → h < link_count net → IsSettledAt net routes wanted c.args.shared.now.link c.args.weighting.now.need ws h)))
    c.in_ok-metric.ensures.weights c.find.ensures.none

pub with_orders-requires : goal.with_orders-requires
with_orders-requires c = sound c.args.problem.now.net.now c.requires.problem.network
