use Rattle.std.proofs.Common.{◌≡◌, ℕ, List, subst}
use Rattle.std.specs.Prelude.{IfOk}
use Rattle.ratio_certificate.proofs.Changed.{changed_weights}
use Rattle.ratio_certificate.proofs.changes.Changes.weighting_with.Goals as goal

pub weighting_of-requires-clause-weights : goal.weighting_of-requires-clause-weights
weighting_of-requires-clause-weights c =
    let it = c.args.self.now in
    changed_weights it.problem.net.now it.metric.now.weights c.in_ok-metric.metric.weights c.args.link c.args.weight c.in_ok-metric.ensures.weights
    c.requires.weight.0 c.requires.weight.1 c.requires.changes.weights

pub returns-clause-weights : goal.returns-clause-weights
returns-clause-weights c =
    subst (λ (ws : List ℕ). IfOk c.weighting_of.result (λ w. w.weights ≡ ws)) c.in_ok-metric.ensures.weights c.weighting_of.ensures.weights

pub returns-clause-weighting : goal.returns-clause-weighting
returns-clause-weighting c = c.weighting_of.ensures.weighting

pub returns-clause-link : goal.returns-clause-link
returns-clause-link c = c.weighting_of.ensures.link
