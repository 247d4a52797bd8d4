use Rattle.std.proofs.Common.{◌<◌, ℕ, List, sym, subst}
use Rattle.te_model.specs.Network.{link_count}
use Rattle.ratio_certificate.specs.Polished.{IsFine}
use Rattle.ratio_certificate.specs.Steps.{IsSettledAt}
use Rattle.ratio_certificate.proofs.Stepping.{improved_progress}
use Rattle.ratio_certificate.proofs.polish.step_at.Goals as goal

pub returns-in-None-clause-none : goal.returns-in-None-clause-none
returns-in-None-clause-none c =
    let net = c.args.problem.now.net.now in
    let routes = c.args.problem.now.routing.now.routes in
    let wanted = c.args.problem.now.set.now in
    let w = c.args.weighting.now in
    let settled = rw c.in-None.is at c.in_ok-change.ensures.none in
    subst (λ e. (h : ℕ) → h < link_count net → IsSettledAt net routes wanted e w.need w.weights h) (sym c.requires.link) settled

pub returns-in-None-clause-fine : goal.returns-in-None-clause-fine
returns-in-None-clause-fine c =
    let w = c.args.weighting.now in
    subst (λ (ws : List ℕ). IsFine ws w.b) c.as_slice.ensures (c.is_fine.ensures.fine c.if-not-is_fine.false)

pub returns-in-Some-clause-some : goal.returns-in-Some-clause-some
returns-in-Some-clause-some c =
    let problem = c.args.problem.now in
    let better = rw c.in-Some.is at c.in_ok-change.ensures.some in
    improved_progress problem.net.now problem.routing.now.routes problem.set.now c.args.shared.now.link c.args.weighting.now c.in-Some.change.weighting c.requires.link better
